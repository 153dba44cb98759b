-- What a write of one octet of the gates leaves.
use Rattle.std.proofs.Common.{◌≡◌, ℕ, ◌+◌, ◌<◌, ◌≤◌, ◌⊎◌, inl, inr, ⊎_elim, length}
use Rattle.std.proofs.Common.{sym, ◌∙◌, ap, subst, arith, get_or}
use Rattle.std.proofs.lemmas.Bool.{cases_lt}
use Rattle.std.proofs.lemmas.Option.{slice_get_past, slice_get-get_or}
use Rattle.std.specs.List.{slice_get}
use Rattle.spf_disk.specs.declared.disk.HelperFile.TheVariants as file
use Rattle.spf_disk.specs.declared.slot.Slot.{Slot}
use Rattle.spf_disk.specs.declared.slot.Slot.TheVariants as slot
use Rattle.spf_disk.specs.Crash.{Only, Torn, TornByWrite}
use Rattle.spf_disk.specs.Image.{Image}
use Rattle.spf_disk.specs.Replacing.{ButGate, HasRoom}
use Rattle.spf_disk.specs.Slots.{gate_number, gate_of, other_slot}

-- an octet that is not touched stays
octet_stays : (untouched : ℕ → Type 0) (end i : ℕ) (m c : Image) (old : Image → Type 0)
    → Only m old → Torn file.Gates untouched end old c → untouched i → i < length m.gates
    → slice_get c.gates i ≡ slice_get m.gates i
octet_stays untouched end i m c old only torn outside inside =
    let is = slice_get-get_or m.gates i 0 inside in
    torn.stays i (get_or m.gates i 0) outside
    (λ d left. ap (λ (e : Image). slice_get e.gates i) (only d left) ∙ is) ∙ sym is

torn_other : (s : Slot) (m c : Image) (old : Image → Type 0) → HasRoom s m → Only m old
    → Torn file.Gates (λ i. (i < gate_number s) ⊎ (gate_number s + 1 ≤ i)) (gate_number s + 1) old c
    → gate_of c (other_slot s) ≡ gate_of m (other_slot s)
torn_other slot.First m c old room only torn = ⊎_elim
    (octet_stays (λ i. (i < 0) ⊎ (1 ≤ i)) 1 1 m c old only torn (inr (omega arith)))
    (λ past.
    let short : length c.gates ≤ 1 = omega (
      arith,
      torn.no_longer 1 (λ d left.
          let same : length d.gates ≡ length m.gates =
          ap (λ (e : Image). length e.gates) (only d left) in
          omega (arith, past, same)),
    ) in
    slice_get_past c.gates 1 short ∙ sym (slice_get_past m.gates 1 past))
    (cases_lt 1 (length m.gates))
torn_other slot.Second m c old room only torn =
    octet_stays (λ i. (i < 1) ⊎ (2 ≤ i)) 2 0 m c old only torn (inl (omega arith))
    (omega (arith, room))

pub same_gate : (s : Slot) (m c : Image) → c ≡ m → ButGate s m c
same_gate s m c is = record {
  first = λ i. (is i).first;
  second = λ i. (is i).second;
  other_gate = λ i. gate_of (is i) (other_slot s);
}

pub gate_crash : (s : Slot) (at : ℕ) (m : Image) (old new : Image → Type 0) → at ≡ gate_number s
    → HasRoom s m → Only m old → TornByWrite file.Gates at (at + 1) old new → (c : Image) → new c
    → ButGate s m c
gate_crash s at m old new is room only torn c left =
    let step : Torn file.Gates (λ i. (i < gate_number s) ⊎ (gate_number s + 1 ≤ i))
    (gate_number s + 1) old c =
    subst (λ (n : ℕ). Torn file.Gates (λ i. (i < n) ⊎ (n + 1 ≤ i)) (n + 1) old c) is
    (torn c left) in
    let from = step.others in
    record {
      first = from.2.0 ∙ ap (λ (e : Image). e.first) (only from.0 from.1);
      second = from.2.1 ∙ ap (λ (e : Image). e.second) (only from.0 from.1);
      other_gate = torn_other s m c old room only step;
    }
