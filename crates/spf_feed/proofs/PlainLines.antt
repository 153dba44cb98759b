-- The line of an event has one line feed, at its end.
use Rattle.std.proofs.Common.{ℕ, ◌+◌, zero, suc, Bool, true, false, cond, List, [], ◌∷◌, ◌++◌}
use Rattle.std.proofs.Common.{length, Option, Some, None, refl, sym, append_assoc}
use Rattle.std.specs.Prelude.{ℤ, IfSome, slice_get, int_lt, codes, decimal}
use Rattle.std.specs.Fmt.{signed_decimal}
use Rattle.std.specs.List.{flat_map, AllByRecursion}
use Rattle.std.specs.Ordering.{nat_cmp}
use Rattle.std.specs.Cmp.Lexicographic.{slice_cmp}
use Rattle.hex.specs.Hex.{encode_lower}
use Rattle.spf_id.specs.Id.{id_text}
use Rattle.spf_x509.specs.Bag.{in_order}
use Rattle.spf_x509.specs.Bundle.{Bundle}
use Rattle.spf_x509.specs.Context.{Context}
use Rattle.spf_x509.specs.Svid.{Svid}
use Rattle.spf_view.specs.Views.{View, Waiting, Withdrawn, Permitted, view_from, first_denial}
use Rattle.spf_view.specs.Views.{last_accepted, last_moment, outcomes, view_of, revision_of}
use Rattle.spf_feed.specs.declared.step.Denial.{Denial}
use Rattle.spf_feed.specs.declared.step.Denial.TheVariants as denial
use Rattle.spf_feed.specs.Items.{Event, Rules, subject}
use Rattle.spf_feed.specs.Lines.{after_comma, hex_list, choice_text, withdrawn_text}
use Rattle.spf_feed.specs.Material.{Material, chosen_of, same_material}
use Rattle.spf_feed.specs.OneLine.{IsLine}
use Rattle.spf_feed.specs.Pick.{choice_of}
use Rattle.spf_feed.specs.Pick.{usable}
use Rattle.spf_feed.specs.Run.{outputs}
use Rattle.spf_feed.specs.Shown.{sorted_text, entry_text, revocations_text, context_text}
use Rattle.spf_feed.specs.Shown.{visible_text, view_line, shown_text}
use Rattle.spf_feed.proofs.Plain.{Plain, behind, texts_plain, decimal_plain, signed_plain}
use Rattle.spf_feed.proofs.Plain.{hex_plain, ended}
use Rattle.spf_feed.proofs.PlainNames.{id_text_plain}
use Rattle.spf_feed.proofs.PlainContexts.{PlainEntry, PlainSvid, PlainContext, PlainMaterial}
use Rattle.spf_feed.proofs.PlainContexts.{accepted_plain}

-- ---- hexadecimal

others_plain : (xs : List (List ℕ)) → Plain (flat_map after_comma xs)
others_plain [] = refl
others_plain (x ∷ xs) =
    behind (after_comma x) (flat_map after_comma xs) (hex_plain x) (others_plain xs)

hex_list_plain : (xs : List (List ℕ)) → Plain (hex_list (λ c. c) xs)
hex_list_plain [] = refl
hex_list_plain (x ∷ xs) =
    behind (encode_lower x) (flat_map after_comma xs) (hex_plain x) (others_plain xs)

sorted_plain : (members : List (List ℕ)) → Plain (sorted_text members)
sorted_plain members = hex_list_plain (in_order (slice_cmp nat_cmp) members)

-- ---- a context

entry_text_plain : (e : List ℕ × Bundle) → PlainEntry e → Plain (entry_text e)
entry_text_plain e p =
    behind e.0 (61 ∷ sorted_text e.1.authorities) p (sorted_plain e.1.authorities)

crls_plain : (crls : List (List ℕ)) → Plain (revocations_text crls)
crls_plain [] = refl
crls_plain (crl ∷ others) = sorted_plain (crl ∷ others)

choice_plain : (choice : Option Svid) → IfSome choice PlainSvid → Plain (choice_text choice)
choice_plain None p = refl
choice_plain (Some svid) p =
    behind (id_text svid.id ++ 32 ∷ signed_decimal svid.expiry) (32 ∷ hex_list (λ c. c) svid.chain)
    (behind (id_text svid.id) (32 ∷ signed_decimal svid.expiry) (id_text_plain svid.id p)
    (signed_plain svid.expiry)) (hex_list_plain svid.chain)

context_text_plain : (context : Context) (choice : Option Svid) → PlainContext context
    → IfSome choice PlainSvid → Plain (context_text context choice)
context_text_plain context choice p q =
    behind (choice_text choice ++ flat_map entry_text context.bundles)
    (revocations_text context.crls)
    (behind (choice_text choice) (flat_map entry_text context.bundles) (choice_plain choice q)
    (texts_plain entry_text PlainEntry entry_text_plain context.bundles p.1))
    (crls_plain context.crls)

-- ---- the choice

usable_plain : (o : Option Svid) (now : Option ℤ) → IfSome o PlainSvid
    → IfSome (usable o now) PlainSvid
usable_plain None now p = tt
usable_plain (Some svid) None p = tt
usable_plain (Some svid) (Some now) p = by (int_lt now svid.expiry)
  where
    by : (b : Bool) → IfSome (cond b (Some svid) None) PlainSvid
    by true = p
    by false = tt

member_plain : (svids : List Svid) (index : ℕ) → AllByRecursion PlainSvid svids
    → IfSome (slice_get svids index) PlainSvid
member_plain [] index ps = tt
member_plain (svid ∷ svids) zero ps = ps.0
member_plain (svid ∷ svids) (suc index) ps = member_plain svids index ps.1

chosen_plain : (svids : List Svid) (choice : Option ℕ) → AllByRecursion PlainSvid svids
    → IfSome (choice_of svids choice) PlainSvid
chosen_plain svids None ps = tt
chosen_plain svids (Some index) ps = member_plain svids index ps

-- ---- a view

pub denial_plain : (reason : Denial) → Plain (withdrawn_text reason)
denial_plain denial.NoIdentityIssued = refl
denial_plain (denial.PermissionDenied message) = hex_plain message

-- what is visible of material whose names have no line feed has none
visible_plain : (accepted : Option Material) (reason : Option Denial) (now : Option ℤ)
    → IfSome accepted PlainMaterial → Plain (visible_text (view_from accepted reason) now)
visible_plain None reason now p = refl
visible_plain (Some material) (Some reason) now p = denial_plain reason
visible_plain (Some material) None now p =
    context_text_plain material.context (usable (chosen_of material) now) p
    (usable_plain (chosen_of material) now
    (chosen_plain material.context.svids material.choice p.0))

-- what comes before the line feed has none
pub numbered : (number text : List ℕ) → Plain number → Plain text
    → IsLine (number ++ 32 ∷ (text ++ 10 ∷ []))
numbered number text p q =
    ended (number ++ 32 ∷ (text ++ 10 ∷ [])) (number ++ 32 ∷ text)
    (sym (append_assoc number (32 ∷ text) (10 ∷ []))) (behind number (32 ∷ text) p q)

shown_is_line : (view : View Material Denial) (number : List ℕ) (revision : ℕ) (now : Option ℤ)
    → Plain number → Plain (visible_text view now) → IsLine (number ++ shown_text view revision now)
unfolding shown_text view_line
shown_is_line Waiting number revision now p q = numbered number (codes "waiting") p refl
shown_is_line (Withdrawn reason) number revision now p q =
    numbered number (decimal revision ++ withdrawn_text reason) p
    (behind (decimal revision) (withdrawn_text reason) (decimal_plain revision) q)
shown_is_line (Permitted material) number revision now p q =
    let visible = visible_text (Permitted material) now in
    numbered number (decimal revision ++ visible) p
    (behind (decimal revision) visible (decimal_plain revision) q)

-- the line of an event
pub line_is_line : (rules : Rules) (past : List Event) (e : Event)
    → IsLine ((outputs rules).line past e)
line_is_line rules past e =
    let os = outcomes (subject rules) (e ∷ past) in
    let now = last_moment (subject rules) (e ∷ past) in
    shown_is_line (view_of os) (decimal (length past + 1)) (revision_of same_material os) now
    (decimal_plain (length past + 1))
    (visible_plain (last_accepted os) (first_denial os) now (accepted_plain rules (e ∷ past)))
