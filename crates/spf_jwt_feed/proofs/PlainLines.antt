-- The line of an event of a JWT session has one line feed, at its end.
use Rattle.std.proofs.Common.{◌≡◌, ℕ, ◌+◌, Bool, true, false, cond, List, [], ◌∷◌, ◌++◌, map}
use Rattle.std.proofs.Common.{length}
use Rattle.std.proofs.Common.{Option, Some, None, Result, Ok, Err, refl, subst}
use Rattle.std.specs.Prelude.{IfSome, codes, decimal, ◌==◌}
use Rattle.std.specs.List.{flat_map, AllByRecursion}
use Rattle.hex.specs.Hex.{encode_lower}
use Rattle.spf_io.specs.Rule.{broken_as, each}
use Rattle.spf_id.specs.Rule.{name_rule}
use Rattle.spf_api.specs.declared.error.WorkloadApiError.{WorkloadApiError}
use Rattle.spf_api.specs.declared.error.WorkloadApiError.TheVariants as api
use Rattle.spf_api.specs.declared.jwt_error.JwtBundleError.{JwtBundleError}
use Rattle.spf_api.specs.declared.response.BundleEntry.{BundleEntry}
use Rattle.spf_api.specs.declared.response.BundlesResponse.{BundlesResponse}
use Rattle.spf_api.specs.Errors.{api_of_id, api_of_jwt_bundle}
use Rattle.spf_jwt.specs.Authority.{Authority, key_set_of}
use Rattle.spf_jwt.specs.Bundle.{Bundle, bundle_of, set_eq}
use Rattle.spf_jwt.specs.Responses.{named_bundle_of, bundles_added, with_bundles}
use Rattle.spf_jwt.specs.Responses.{jwt_bundle_set_of}
use Rattle.spf_view.specs.Views.{View, Waiting, Withdrawn, Permitted, view_from, first_denial}
use Rattle.spf_view.specs.Views.{last_accepted, outcomes, view_of, revision_of}
use Rattle.spf_feed.specs.declared.event.SessionEvent.TheVariants as events
use Rattle.spf_feed.specs.declared.step.Denial.{Denial}
use Rattle.spf_feed.specs.Lines.{withdrawn_text}
use Rattle.spf_feed.specs.OneLine.{IsLine}
use Rattle.spf_feed.proofs.Plain.{Plain, behind, texts_plain, decimal_plain, hex_plain}
use Rattle.spf_feed.proofs.PlainNames.{bound, as_read, name_plain}
use Rattle.spf_feed.proofs.PlainContexts.{PlainEntry, each_kept, all_map, entries_plain, last_holds}
use Rattle.spf_feed.proofs.PlainLines.{denial_plain, numbered}
use Rattle.spf_jwt_feed.specs.declared.event.JwtItem.TheVariants as item
use Rattle.spf_jwt_feed.specs.Items.{Event, Rules, subject, item_by, item_in, item_set, bundles_in}
use Rattle.spf_jwt_feed.specs.Run.{outputs}
use Rattle.spf_jwt_feed.specs.Shown.{key_text, after_comma, listed_text, keys_text, entry_text}
use Rattle.spf_jwt_feed.specs.Shown.{visible_text, view_line, shown_text}
use Rattle.spf_jwt_feed.specs.Steps.{BundleSet}

-- ---- bundle sets

-- a bundle whose trust domain has no line feed
abbrev PlainBundle : Bundle → Type 0
PlainBundle b = Plain b.domain

-- the trust domains of the set have no line feed
abbrev PlainSet : BundleSet → Type 0
PlainSet set = AllByRecursion PlainEntry set

named_so : (domain : List ℕ) (read : Result (List Authority) JwtBundleError) (b : Bundle)
    → bundle_of domain read ≡ Ok b → domain ≡ b.domain
named_so domain read b h =
    bound read _ b h (λ authorities a_is made. let same : domain ≡ b.domain = cc in same)

named_plain : (e : BundleEntry) (b : Bundle) → named_bundle_of e ≡ Ok b → PlainBundle b
unfolding named_bundle_of
named_plain e b h =
    bound (broken_as api_of_id (name_rule e.name)) _ b h (λ domain d_is rest.
    let read = key_set_of e.bundle in
    subst Plain
    (named_so domain read b (as_read api_of_jwt_bundle (bundle_of domain read) b rest))
    (name_plain e.name domain (as_read api_of_id (name_rule e.name) domain d_is)))

added_plain : (entries : List BundleEntry) (set : BundleSet) → bundles_added entries ≡ Ok set
    → PlainSet set
added_plain entries set h =
    bound (each named_bundle_of entries) _ set h (λ bundles b_is made.
    let all = each_kept named_bundle_of PlainBundle named_plain entries bundles b_is in
    let named = map (λ (b : Bundle). (b.domain, b)) bundles in
    let plain = all_map (λ (b : Bundle). (b.domain, b)) PlainBundle PlainEntry (λ b p. p) bundles
    all in
    let same : with_bundles [] bundles ≡ set = cc in
    subst PlainSet same (entries_plain [] named tt plain))

set_plain : (r : BundlesResponse) (set : BundleSet) → jwt_bundle_set_of r ≡ Ok set → PlainSet set
unfolding jwt_bundle_set_of
set_plain r set h = by (length r.bundles == 0) h
  where
    by : (b : Bool)
        → cond b (Err (api.MissingRequiredField (codes "JWTBundlesResponse.bundles")))
        (bundles_added r.bundles) ≡ Ok set → PlainSet set
    by true is = absurd (cc)
    by false is = added_plain r.bundles set is

-- ---- accepted bundle sets

set_of_item : (read : Result BundleSet WorkloadApiError) (set : BundleSet)
    → bundles_in (item_by read) ≡ Some set → read ≡ Ok set
set_of_item (Ok held) set h = cc
set_of_item (Err e) set h = absurd (cc)

item_plain : (r : BundlesResponse) (set : BundleSet) → bundles_in (item_in r) ≡ Some set
    → PlainSet set
unfolding item_in
item_plain r set h = by (length r.bundles == 0) h
  where
    by : (b : Bool) → bundles_in (cond b item.Empty (item_by (jwt_bundle_set_of r))) ≡ Some set
        → PlainSet set
    by true is = absurd (cc)
    by false is = set_plain r set (set_of_item (jwt_bundle_set_of r) set is)

event_plain : (e : Event) (set : BundleSet) → item_set item_in e ≡ Some set → PlainSet set
event_plain (events.Item r) set h = item_plain r set h
event_plain events.ClientMade set h = absurd (cc)
event_plain (events.ClientFailed e) set h = absurd (cc)
event_plain events.Connected set h = absurd (cc)
event_plain (events.ConnectStatus s) set h = absurd (cc)
event_plain (events.ItemStatus s) set h = absurd (cc)
event_plain events.StreamEnd set h = absurd (cc)
event_plain (events.Moment m) set h = absurd (cc)
event_plain events.Close set h = absurd (cc)

accepted_plain : (rules : Rules) (past : List Event)
    → IfSome (last_accepted (outcomes (subject rules) past)) PlainSet
accepted_plain rules past = last_holds (subject rules) PlainSet event_plain past

-- ---- a view

key_plain : (key : Authority) → Plain (key_text key)
key_plain key =
    behind (encode_lower key.key_id) (58 ∷ encode_lower key.jwk) (hex_plain key.key_id)
    (hex_plain key.jwk)

others_plain : (keys : List Authority) → Plain (flat_map after_comma keys)
others_plain [] = refl
others_plain (key ∷ others) =
    behind (after_comma key) (flat_map after_comma others) (key_plain key) (others_plain others)

listed_plain : (keys : List Authority) → Plain (listed_text keys)
listed_plain [] = refl
listed_plain (key ∷ others) =
    behind (key_text key) (flat_map after_comma others) (key_plain key) (others_plain others)

entry_text_plain : (e : List ℕ × Bundle) → PlainEntry e → Plain (entry_text e)
entry_text_plain e p =
    behind e.0 (61 ∷ keys_text e.1.authorities) p
    (listed_plain (map (λ (k : List ℕ × Authority). k.1) e.1.authorities))

visible_plain : (accepted : Option BundleSet) (reason : Option Denial) → IfSome accepted PlainSet
    → Plain (visible_text (view_from accepted reason))
visible_plain None reason p = refl
visible_plain (Some set) (Some reason) p = denial_plain reason
visible_plain (Some set) None p =
    behind (codes " permitted") (flat_map entry_text set) refl
    (texts_plain entry_text PlainEntry entry_text_plain set p)

shown_is_line : (view : View BundleSet Denial) (number : List ℕ) (revision : ℕ) → Plain number
    → Plain (visible_text view) → IsLine (number ++ shown_text view revision)
unfolding shown_text view_line
shown_is_line Waiting number revision p q = numbered number (codes "waiting") p refl
shown_is_line (Withdrawn reason) number revision p q =
    numbered number (decimal revision ++ withdrawn_text reason) p
    (behind (decimal revision) (withdrawn_text reason) (decimal_plain revision) q)
shown_is_line (Permitted set) number revision p q =
    let visible = visible_text (Permitted set) in
    numbered number (decimal revision ++ visible) p
    (behind (decimal revision) visible (decimal_plain revision) q)

-- the line of an event
pub line_is_line : (rules : Rules) (past : List Event) (e : Event)
    → IsLine ((outputs rules).line past e)
line_is_line rules past e =
    let os = outcomes (subject rules) (e ∷ past) in
    shown_is_line (view_of os) (decimal (length past + 1)) (revision_of set_eq os)
    (decimal_plain (length past + 1))
    (visible_plain (last_accepted os) (first_denial os) (accepted_plain rules (e ∷ past)))
