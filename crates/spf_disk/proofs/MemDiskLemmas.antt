-- What a change of one file of a disk in memory lets a crash leave, and how time goes on.
use Rattle.std.proofs.Common.{◌≡◌, ℕ, zero, suc, ◌+◌, ◌<◌, ◌≤◌, ◌⊎◌, inl, inr, ⊎_elim, true, List}
use Rattle.std.proofs.Common.{[]}
use Rattle.std.proofs.Common.{◌∷◌, ◌++◌, length, take, drop, Some, refl, sym, ◌∙◌, ap, subst, arith}
use Rattle.std.proofs.Common.{max}
use Rattle.std.proofs.Common.{length-append, replicate, length-drop}
use Rattle.std.proofs.lemmas.List.{length-take-le, length-replicate}
use Rattle.std.proofs.lemmas.Option.{slice_get_within}
use Rattle.std.specs.List.{slice_get}
use Rattle.spf_disk.specs.declared.disk.HelperFile.{HelperFile}
use Rattle.spf_disk.specs.declared.disk.HelperFile.TheVariants.{Gates, First, Second}
use Rattle.spf_disk.specs.declared.mem_disk.MemFiles.{MemFiles}
use Rattle.spf_disk.specs.Crash.{Torn, TornByWrite, TornByCut, Elapses}
use Rattle.spf_disk.specs.Image.{Image, Written, Kept, bytes_of}
use Rattle.spf_disk.specs.Memory.{FileState, IsOutcome, IsUnsettled, longest}
use Rattle.spf_disk.specs.MemoryDisk.{state_of, with_state, image_of, IsLeft, WasLeft, LeftSince}
use Rattle.spf_disk.proofs.Moments.{image_same}
use Rattle.spf_disk.proofs.MemoryLemmas.{written_outside, bytes_left, file_stays, file_no_longer}

-- what a change of the file lets a crash leave of it
pub record TornOne (untouched : ℕ → Type 0) (end : ℕ) (f : FileState) (c : List ℕ) : Type 0 where
  pub stays : (i octet : ℕ) → untouched i
      → ((b : List ℕ) → IsOutcome f b → slice_get b i ≡ Some octet) → slice_get c i ≡ Some octet
  pub no_longer : (size : ℕ) → ((b : List ℕ) → IsOutcome f b → length b ≤ size)
      → length c ≤ max size end

pub torn_file : (untouched : ℕ → Type 0) (end : ℕ) (file : HelperFile) (files : MemFiles)
    (state : FileState) → ((c : List ℕ) → IsOutcome state c
    → TornOne untouched end (state_of files file) c) → (c : Image)
    → IsLeft (with_state file state files) c → Torn file untouched end (IsLeft files) c
torn_file untouched end Gates files state one c left =
    let torn = one c.gates left.gates in
    let seen = bytes_left files.gates in
    record {
      stays = λ i octet outside each. torn.stays i octet outside (λ b out.
          each (record c { gates = b })
          (record { gates = out; first = left.first; second = left.second }));
      no_longer = λ size each. torn.no_longer size (λ b out.
          each (record c { gates = b })
          (record { gates = out; first = left.first; second = left.second }));
      others = (
        record c { gates = files.gates.bytes },
        record { gates = seen; first = left.first; second = left.second },
        (refl, refl),
      );
    }
torn_file untouched end First files state one c left =
    let torn = one c.first left.first in
    let seen = bytes_left files.first in
    record {
      stays = λ i octet outside each. torn.stays i octet outside (λ b out.
          each (record c { first = b })
          (record { gates = left.gates; first = out; second = left.second }));
      no_longer = λ size each. torn.no_longer size (λ b out.
          each (record c { first = b })
          (record { gates = left.gates; first = out; second = left.second }));
      others = (
        record c { first = files.first.bytes },
        record { gates = left.gates; first = seen; second = left.second },
        (refl, refl),
      );
    }
torn_file untouched end Second files state one c left =
    let torn = one c.second left.second in
    let seen = bytes_left files.second in
    record {
      stays = λ i octet outside each. torn.stays i octet outside (λ b out.
          each (record c { second = b })
          (record { gates = left.gates; first = left.first; second = out }));
      no_longer = λ size each. torn.no_longer size (λ b out.
          each (record c { second = b })
          (record { gates = left.gates; first = left.first; second = out }));
      others = (
        record c { second = files.second.bytes },
        record { gates = left.gates; first = left.first; second = seen },
        (refl, refl),
      );
    }

pub write_torn : (at : ℕ) (piece : List ℕ) (f state : FileState) → at ≤ length f.bytes
    → Written at piece f.bytes state.bytes
    → IsUnsettled at (at + length piece) (longest f) f.settled state.settled → (c : List ℕ)
    → IsOutcome state c
    → TornOne (λ i. (i < at) ⊎ (at + length piece ≤ i)) (at + length piece) f c
write_torn at piece f state le written unsettled c left = record {
  stays = λ i octet outside each. file_stays f state i octet c
      (λ settled inside. (
        unsettled.still i (omega (arith, slice_get_within f.settled i true settled)) settled
            outside,
        ap (λ (l : List ℕ). slice_get l i) written
            ∙ written_outside at piece f.bytes i le outside inside,
      )) left each;
  no_longer = λ size each. file_no_longer f state (at + length piece) size c
      (omega (
        arith,
        unsettled.size_is,
        ap length written,
        length-append (take at f.bytes) (piece ++ drop (at + length piece) f.bytes),
        length-append piece (drop (at + length piece) f.bytes),
        length-take-le at f.bytes le,
        length-drop (at + length piece) f.bytes,
      )) left each;
}

pub cut_torn : (count : ℕ) (f state : FileState) → count ≤ length f.bytes
    → Kept count f.bytes state.bytes
    → IsUnsettled count (longest f) (longest f) f.settled state.settled → (c : List ℕ)
    → IsOutcome state c → TornOne (λ i. i < count) 0 f c
cut_torn count f state le kept unsettled c left = record {
  stays = λ i octet outside each. file_stays f state i octet c
      (λ settled inside. (
        unsettled.still i (omega (arith, slice_get_within f.settled i true settled)) settled
            (inl outside),
        ap (λ (l : List ℕ). slice_get l i) kept ∙ kept_inside count f.bytes i outside,
      )) left each;
  no_longer = λ size each. file_no_longer f state 0 size c
      (omega (arith, unsettled.size_is, ap length kept, length-take-le count f.bytes le)) left each;
}
  where
    kept_inside : (n : ℕ) (bytes : List ℕ) (i : ℕ) → i < n
        → slice_get (take n bytes) i ≡ slice_get bytes i
    kept_inside zero bytes i lt = absurd (omega arith)
    kept_inside (suc n) [] i lt = refl
    kept_inside (suc n) (b ∷ bytes) zero lt = refl
    kept_inside (suc n) (b ∷ bytes) (suc i) lt = kept_inside n bytes i (omega arith)

same_lists : (a b : List ℕ) → length a ≤ length b
    → ((i : ℕ) → i < length b → slice_get a i ≡ slice_get b i) → a ≡ b
same_lists [] [] le same = refl
same_lists [] (y ∷ ys) le same = cc (same 0 (omega arith))
same_lists (x ∷ xs) [] le same = absurd (omega arith)
same_lists (x ∷ xs) (y ∷ ys) le same = λ i. one (same 0 (omega arith)) i
    ∷ same_lists xs ys (omega arith) (λ j lt. same (suc j) (omega arith)) i
  where
    one : Some x ≡ Some y → x ≡ y
    one e = cc

all_settled : (n i : ℕ) → i < n → slice_get (replicate n true) i ≡ Some true
all_settled zero i lt = absurd (omega arith)
all_settled (suc n) zero lt = refl
all_settled (suc n) (suc i) lt = all_settled n i (omega arith)

-- of a file that is synced a crash leaves its bytes
pub synced_outcome : (f : FileState) (c : List ℕ)
    → IsOutcome (record { bytes = f.bytes; settled = replicate (length f.bytes) true }) c
    → c ≡ f.bytes
synced_outcome f c left = same_lists c f.bytes
    (omega (arith, left.no_longer, length-replicate (length f.bytes) true))
    (λ i lt. left.stays i (all_settled (length f.bytes) i lt) lt)

pub synced_before : (f : FileState) (c : List ℕ)
    → IsOutcome (record { bytes = f.bytes; settled = replicate (length f.bytes) true }) c
    → IsOutcome f c
synced_before f c left = subst (IsOutcome f) (sym (synced_outcome f c left)) (bytes_left f)

-- ---- time

pub elapses_same : (past : List MemFiles) (files : MemFiles)
    → Elapses (length past) (length past) (LeftSince past files) (LeftSince past files)
    (IsLeft files)
elapses_same past files = record {
  later = omega arith;
  nothing_else = λ t c le left. inl left;
  keeps = λ t c le left. left;
}

was_more : (past : List MemFiles) (files : MemFiles) (c : Image) → WasLeft past c
    → WasLeft (past ++ files ∷ []) c
was_more [] files c was = absurd was
was_more (p ∷ past) files c (inl here) = inl here
was_more (p ∷ past) files c (inr there) = inr (was_more past files c there)

was_last : (past : List MemFiles) (files : MemFiles) (c : Image) → IsLeft files c
    → WasLeft (past ++ files ∷ []) c
was_last [] files c left = inl left
was_last (p ∷ past) files c left = inr (was_last past files c left)

was_split : (past : List MemFiles) (files : MemFiles) (c : Image)
    → WasLeft (past ++ files ∷ []) c → WasLeft past c ⊎ IsLeft files c
was_split [] files c (inl here) = inr here
was_split [] files c (inr none) = absurd none
was_split (p ∷ past) files c (inl here) = inl (inl here)
was_split (p ∷ past) files c (inr there) =
    ⊎_elim (λ was. inl (inr was)) (λ left. inr left) (was_split past files c there)

drop_pushed : (t : ℕ) (past : List MemFiles) (files : MemFiles) → t ≤ length past
    → drop t (past ++ files ∷ []) ≡ drop t past ++ files ∷ []
drop_pushed zero past files le = refl
drop_pushed (suc t) [] files le = absurd (omega arith)
drop_pushed (suc t) (p ∷ past) files le = drop_pushed t past files (omega arith)

pub elapses_pushed : (past later : List MemFiles) (old new : MemFiles) → later ≡ past ++ old ∷ []
    → Elapses (length past) (length later) (LeftSince past old) (LeftSince later new) (IsLeft new)
elapses_pushed past later old new is =
    subst (λ (l : List MemFiles). Elapses (length past) (length l) (LeftSince past old)
    (LeftSince l new) (IsLeft new)) (sym is) (record {
      later = omega (arith, length-append past (old ∷ []));
      nothing_else = λ t c le left. ⊎_elim (λ now. inr now)
          (λ was. inl (⊎_elim (λ w. inr w) (λ l. inl l) (was_split (drop t past) old c
          (subst (λ (l : List MemFiles). WasLeft l c) (drop_pushed t past old le) was)))) left;
      keeps = λ t c le left. inr (subst (λ (l : List MemFiles). WasLeft l c)
          (sym (drop_pushed t past old le))
          (⊎_elim (was_last (drop t past) old c) (was_more (drop t past) old c) left));
    })

-- ---- the three changes

bytes_at : (file : HelperFile) (files : MemFiles)
    → bytes_of (image_of files) file ≡ (state_of files file).bytes
bytes_at Gates files = refl
bytes_at First files = refl
bytes_at Second files = refl

pub write_change : (at : ℕ) (piece : List ℕ) (file : HelperFile) (files now : MemFiles)
    (f state : FileState) → f ≡ state_of files file → now ≡ with_state file state files
    → at ≤ length (bytes_of (image_of files) file) → Written at piece f.bytes state.bytes
    → IsUnsettled at (at + length piece) (longest f) f.settled state.settled
    → TornByWrite file at (at + length piece) (IsLeft files) (IsLeft now)
write_change at piece file files now f state is changed le written unsettled c left =
    let inside : at ≤ length f.bytes =
    omega (arith, le, ap length (bytes_at file files), ap (λ (g : FileState). length g.bytes) is) in
    torn_file (λ i. (i < at) ⊎ (at + length piece ≤ i)) (at + length piece) file files state
    (λ b out. subst (λ (g : FileState). TornOne (λ i. (i < at) ⊎ (at + length piece ≤ i))
    (at + length piece) g b) is (write_torn at piece f state inside written unsettled b out)) c
    (subst (λ (g : MemFiles). IsLeft g c) changed left)

pub cut_change : (count : ℕ) (file : HelperFile) (files now : MemFiles) (f state : FileState)
    → f ≡ state_of files file → now ≡ with_state file state files
    → count ≤ length (bytes_of (image_of files) file) → Kept count f.bytes state.bytes
    → IsUnsettled count (longest f) (longest f) f.settled state.settled
    → TornByCut file count (IsLeft files) (IsLeft now)
cut_change count file files now f state is changed le kept unsettled c left =
    let inside : count ≤ length f.bytes =
    omega (arith, le, ap length (bytes_at file files), ap (λ (g : FileState). length g.bytes) is) in
    torn_file (λ i. i < count) 0 file files state
    (λ b out. subst (λ (g : FileState). TornOne (λ i. i < count) 0 g b) is
    (cut_torn count f state inside kept unsettled b out)) c
    (subst (λ (g : MemFiles). IsLeft g c) changed left)

-- a file with nothing pending
abbrev pub synced_state : FileState → FileState
synced_state f = record { bytes = f.bytes; settled = replicate (length f.bytes) true }

pub sync_no_more : (file : HelperFile) (files : MemFiles) (c : Image)
    → IsLeft (with_state file (synced_state (state_of files file)) files) c → IsLeft files c
sync_no_more Gates files c left = record {
  gates = synced_before files.gates c.gates left.gates;
  first = left.first;
  second = left.second;
}
sync_no_more First files c left = record {
  gates = left.gates;
  first = synced_before files.first c.first left.first;
  second = left.second;
}
sync_no_more Second files c left = record {
  gates = left.gates;
  first = left.first;
  second = synced_before files.second c.second left.second;
}

pub sync_durable : (file : HelperFile) (files : MemFiles) (c : Image)
    → IsLeft (with_state file (synced_state (state_of files file)) files) c
    → bytes_of c file ≡ bytes_of (image_of files) file
sync_durable Gates files c left = synced_outcome files.gates c.gates left.gates
sync_durable First files c left = synced_outcome files.first c.first left.first
sync_durable Second files c left = synced_outcome files.second c.second left.second

pub synced_files : (file : HelperFile) (files now : MemFiles) (f state : FileState)
    → f ≡ state_of files file → state ≡ synced_state f → now ≡ with_state file state files
    → now ≡ with_state file (synced_state (state_of files file)) files
synced_files file files now f state is synced changed =
    changed ∙ ap (λ (g : FileState). with_state file g files) (synced ∙ ap synced_state is)

pub torn_along : (untouched : ℕ → Type 0) (end : ℕ) (file : HelperFile)
    (start before after last : MemFiles) → before ≡ start → last ≡ after
    → ((c : Image) → IsLeft after c → Torn file untouched end (IsLeft before) c) → (c : Image)
    → IsLeft last c → Torn file untouched end (IsLeft start) c
torn_along untouched end file start before after last begins ends torn c left =
    subst (λ (f : MemFiles). Torn file untouched end (IsLeft f) c) begins
    (torn c (subst (λ (f : MemFiles). IsLeft f c) ends left))

-- a file of which all is settled
settled_outcome : (f : FileState) (c : List ℕ)
    → f.settled ≡ replicate (length f.bytes) true → IsOutcome f c → c ≡ f.bytes
settled_outcome f c all left = synced_outcome f c
    (subst (λ (g : FileState). IsOutcome g c) (λ i. record { bytes = f.bytes; settled = all i })
    left)

pub all_durable : (files : MemFiles) (c : Image)
    → files.gates.settled ≡ replicate (length files.gates.bytes) true
    → files.first.settled ≡ replicate (length files.first.bytes) true
    → files.second.settled ≡ replicate (length files.second.bytes) true → IsLeft files c
    → c ≡ image_of files
all_durable files c gates first second left = image_same c (image_of files)
    (settled_outcome files.gates c.gates gates left.gates)
    (settled_outcome files.first c.first first left.first)
    (settled_outcome files.second c.second second left.second)
