-- The names in a context, and in accepted material, have no line feed.
use Rattle.std.proofs.Common.{◌≡◌, ℕ, Bool, true, false, cond, ◌||◌, List, [], ◌∷◌, ◌++◌, map}
use Rattle.std.proofs.Common.{Option, Some, None, Result, Ok, Err, refl, subst}
use Rattle.std.specs.Prelude.{IfSome}
use Rattle.std.specs.declared.cmp.Ordering.{Ordering}
use Rattle.std.specs.declared.cmp.Ordering.TheVariants.{Less, Equal, Greater}
use Rattle.std.specs.List.{AllByRecursion}
use Rattle.std.specs.Option.{option_map, option_map_or}
use Rattle.std.specs.Ordering.{match_ordering, nat_cmp}
use Rattle.std.specs.Cmp.Lexicographic.{slice_cmp}
use Rattle.spf_io.specs.Rule.{broken_as, each}
use Rattle.spf_id.specs.Rule.{name_rule}
use Rattle.spf_x509.specs.declared.error.CertificateError.{CertificateError}
use Rattle.spf_x509.specs.Bundle.{Bundle, with_entry, with_entries, with_bundles}
use Rattle.spf_x509.specs.BundleRule.{bundle_of}
use Rattle.spf_x509.specs.Chain.{svid_of, authorities_rule}
use Rattle.spf_x509.specs.Context.{Context}
use Rattle.spf_x509.specs.Errors.{bundle_of_certificate}
use Rattle.spf_x509.specs.Svid.{Svid}
use Rattle.spf_api.specs.declared.response.ContextResponse.{ContextResponse}
use Rattle.spf_api.specs.declared.response.SvidEntry.{SvidEntry}
use Rattle.spf_api.specs.declared.response.BundleEntry.{BundleEntry}
use Rattle.spf_api.specs.declared.error.WorkloadApiError.{WorkloadApiError}
use Rattle.spf_api.specs.Errors.{api_of_bundle, api_of_id, api_of_svid}
use Rattle.spf_api.specs.Parsed.{entries_rule, hint_rule, svid_of_entry, bundle_for}
use Rattle.spf_api.specs.Parsed.{pair_of, named_bundle_of, pairs_of}
use Rattle.spf_api.specs.Parsed.{svids_in, bundles_in, parsed_of}
use Rattle.spf_view.specs.Views.{Subject, Outcome, Accepted, keep_if, brings, has_synced}
use Rattle.spf_view.specs.Views.{last_moment, denied_or_passed, outcomes, last_accepted}
use Rattle.spf_feed.specs.declared.event.SessionEvent.TheVariants as events
use Rattle.spf_feed.specs.Items.{Event, Rules, value_of, context_in, picked, item_material, subject}
use Rattle.spf_feed.specs.Material.{Material}
use Rattle.spf_feed.proofs.Plain.{Plain}
use Rattle.spf_feed.proofs.PlainNames.{PlainId, bound, as_read, name_plain, svid_plain}

-- ---- lists

pub each_kept : {A B E : Type 0} (f : A → Result B E) (P : B → Type 0)
    → ((x : A) (y : B) → f x ≡ Ok y → P y) → (xs : List A) (ys : List B) → each f xs ≡ Ok ys
    → AllByRecursion P ys
each_kept {A} {B} f P holds [] ys h = let same : [] ≡ ys = cc in subst (AllByRecursion P) same tt
each_kept {A} {B} f P holds (x ∷ xs) ys h =
    bound (f x) _ ys h (λ y y_is rest.
    bound (each f xs) _ ys rest (λ others o_is made.
    let same : y ∷ others ≡ ys = cc in
    subst (AllByRecursion P) same (holds x y y_is, each_kept f P holds xs others o_is)))

pub all_map : {A B : Type 0} (f : A → B) (P : A → Type 0) (Q : B → Type 0)
    → ((x : A) → P x → Q (f x)) → (xs : List A) → AllByRecursion P xs → AllByRecursion Q (map f xs)
all_map f P Q holds [] all = tt
all_map f P Q holds (x ∷ xs) all = (holds x all.0, all_map f P Q holds xs all.1)

all_append : {A : Type 0} (P : A → Type 0) (xs ys : List A) → AllByRecursion P xs
    → AllByRecursion P ys → AllByRecursion P (xs ++ ys)
all_append P [] ys p q = q
all_append P (x ∷ xs) ys p q = (p.0, all_append P xs ys p.1 q)

-- ---- bundle sets

-- an entry whose trust domain has no line feed
abbrev pub PlainEntry : {V : Type 0} → List ℕ × V → Type 0
PlainEntry e = Plain e.0

indexed_plain : {V : Type 0} (o : Ordering) (e : List ℕ × V) (es others : List (List ℕ × V))
    (k : List ℕ) (v : V) → PlainEntry e → AllByRecursion PlainEntry es
    → AllByRecursion PlainEntry others → Plain k
    → AllByRecursion PlainEntry (match_ordering o ((k, v) ∷ e ∷ es) ((e.0, v) ∷ es) (e ∷ others))
indexed_plain Less e es others k v p ps qs q = (q, (p, ps))
indexed_plain Equal e es others k v p ps qs q = (p, ps)
indexed_plain Greater e es others k v p ps qs q = (p, qs)

entry_plain : {V : Type 0} (es : List (List ℕ × V)) (k : List ℕ) (v : V)
    → AllByRecursion PlainEntry es → Plain k → AllByRecursion PlainEntry (with_entry es k v)
entry_plain [] k v ps q = (q, tt)
entry_plain (e ∷ es) k v ps q =
    indexed_plain (slice_cmp nat_cmp k e.0) e es (with_entry es k v) k v ps.0 ps.1
    (entry_plain es k v ps.1 q) q

pub entries_plain : {V : Type 0} (es fs : List (List ℕ × V)) → AllByRecursion PlainEntry es
    → AllByRecursion PlainEntry fs → AllByRecursion PlainEntry (with_entries es fs)
entries_plain es [] ps qs = ps
entries_plain es (f ∷ fs) ps qs =
    entries_plain (with_entry es f.0 f.1) fs (entry_plain es f.0 f.1 ps qs.0) qs.1

-- a bundle whose trust domain has no line feed
abbrev pub PlainBundle : Bundle → Type 0
PlainBundle b = Plain b.domain

bundles_plain : (bundles : List Bundle) → AllByRecursion PlainBundle bundles
    → AllByRecursion PlainEntry (with_bundles [] bundles)
bundles_plain bundles ps =
    entries_plain [] (map (λ (b : Bundle). (b.domain, b)) bundles) tt
    (all_map (λ (b : Bundle). (b.domain, b)) PlainBundle PlainEntry (λ b p. p) bundles ps)

-- ---- responses

named_so : (domain : List ℕ) (read : Result (List (List ℕ)) CertificateError) (b : Bundle)
    → bundle_of domain read ≡ Ok b → domain ≡ b.domain
named_so domain read b h =
    bound (broken_as bundle_of_certificate read) _ b h
    (λ authorities a_is made. let same : domain ≡ b.domain = cc in same)

bundle_plain : (domain der : List ℕ) (b : Bundle) → bundle_for domain der ≡ Ok b → Plain domain
    → PlainBundle b
unfolding bundle_for
bundle_plain domain der b h p =
    subst Plain
    (named_so domain (authorities_rule der) b
    (as_read api_of_bundle (bundle_of domain (authorities_rule der)) b h)) p

-- an SVID whose ID has no line feed
abbrev pub PlainSvid : Svid → Type 0
PlainSvid svid = PlainId svid.id

-- an SVID and its bundle
abbrev PlainPair : Svid × Bundle → Type 0
PlainPair m = PlainSvid m.0 × PlainBundle m.1

pair_plain : (e : SvidEntry) (m : Svid × Bundle) → pair_of e ≡ Ok m → PlainPair m
unfolding pair_of svid_of_entry
pair_plain e m h =
    bound (broken_as api_of_svid (svid_of e.x509_svid e.x509_svid_key (hint_rule e.hint))) _ m h
    (λ svid s_is rest.
    bound (bundle_for svid.id.domain e.bundle) _ m rest (λ bundle b_is made.
    let id = svid_plain e.x509_svid e.x509_svid_key (hint_rule e.hint) svid
    (as_read api_of_svid (svid_of e.x509_svid e.x509_svid_key (hint_rule e.hint)) svid s_is) in
    let same : (svid, bundle) ≡ m = cc in
    subst PlainPair same (id, bundle_plain svid.id.domain e.bundle bundle b_is id.0)))

named_plain : (e : BundleEntry) (b : Bundle) → named_bundle_of e ≡ Ok b → PlainBundle b
unfolding named_bundle_of
named_plain e b h =
    bound (broken_as api_of_id (name_rule e.name)) _ b h (λ domain d_is rest.
    bundle_plain domain e.bundle b rest
    (name_plain e.name domain (as_read api_of_id (name_rule e.name) domain d_is)))

pairs_plain : (entries : List SvidEntry) (ms : List (Svid × Bundle))
    → pairs_of entries ≡ Ok ms → AllByRecursion PlainPair ms
unfolding pairs_of
pairs_plain entries ms h =
    bound (entries_rule entries) _ ms h
    (λ done d_is rest. each_kept pair_of PlainPair pair_plain entries ms rest)

-- the names in a context have no line feed
abbrev pub PlainContext : Context → Type 0
PlainContext context =
    AllByRecursion PlainSvid context.svids × AllByRecursion PlainEntry context.bundles

parsed_plain : (r : ContextResponse) (context : Context) → parsed_of r ≡ Ok context
    → PlainContext context
unfolding parsed_of
parsed_plain r context h =
    bound (pairs_of r.svids) _ context h (λ ms m_is rest.
    bound (each named_bundle_of r.federated) _ context rest (λ federated f_is made.
    let pairs = pairs_plain r.svids ms m_is in
    let svids = all_map (λ (m : Svid × Bundle). m.0) PlainPair PlainSvid (λ m p. p.0) ms pairs in
    let own = all_map (λ (m : Svid × Bundle). m.1) PlainPair PlainBundle (λ m p. p.1) ms pairs in
    let named = each_kept named_bundle_of PlainBundle named_plain r.federated federated f_is in
    let whole : Context = record {
      svids = svids_in ms;
      bundles = with_bundles [] (bundles_in ms ++ federated);
      crls = r.crls;
    } in
    let same : whole ≡ context = cc in
    subst PlainContext same (
      svids,
      bundles_plain (bundles_in ms ++ federated)
          (all_append PlainBundle (bundles_in ms) federated own named),
    )))

value_plain : (answer : Result Context WorkloadApiError) (context : Context)
    → value_of answer ≡ Some context → answer ≡ Ok context
value_plain (Ok x) context h = cc
value_plain (Err e) context h = absurd (cc)

-- the context of a response
context_plain : (r : ContextResponse) (context : Context) → context_in r ≡ Some context
    → PlainContext context
unfolding context_in
context_plain r context h = parsed_plain r context (value_plain (parsed_of r) context h)

-- ---- accepted material

-- material whose context has such names
abbrev pub PlainMaterial : Material → Type 0
PlainMaterial material = PlainContext material.context

read_plain : (rules : Rules) (o : Option Context) (material : Material)
    → ((context : Context) → o ≡ Some context → PlainContext context)
    → option_map (picked rules) o ≡ Some material → PlainMaterial material
read_plain rules None material holds h = absurd (cc)
read_plain rules (Some context) material holds h = let same : picked rules context ≡ material =
    cc in subst PlainMaterial same (holds context refl)

event_plain : (rules : Rules) (e : Event) (material : Material)
    → item_material context_in rules e ≡ Some material → PlainMaterial material
event_plain rules (events.Item r) material h =
    read_plain rules (context_in r) material (context_plain r) h
event_plain rules events.ClientMade material h = absurd (cc)
event_plain rules (events.ClientFailed e) material h = absurd (cc)
event_plain rules events.Connected material h = absurd (cc)
event_plain rules (events.ConnectStatus s) material h = absurd (cc)
event_plain rules (events.ItemStatus s) material h = absurd (cc)
event_plain rules events.StreamEnd material h = absurd (cc)
event_plain rules (events.Moment m) material h = absurd (cc)
event_plain rules events.Close material h = absurd (cc)

kept_if : {M : Type 0} (P : M → Type 0) (test : M → Bool) (o : Option M) → IfSome o P
    → IfSome (keep_if test o) P
kept_if P test None p = tt
kept_if {M} P test (Some m) p = by (test m)
  where
    by : (b : Bool) → IfSome (cond b (Some m) None) P
    by true = p
    by false = tt

if_known : {M : Type 0} (P : M → Type 0) (o : Option M) → ((m : M) → o ≡ Some m → P m) → IfSome o P
if_known P None known = tt
if_known P (Some m) known = known m refl

passed_on : {M D : Type 0} (P : M → Type 0) (synced : Bool) (o : Option D) (os : List (Outcome M D))
    → IfSome (last_accepted os) P → IfSome (last_accepted (denied_or_passed synced o ∷ os)) P
passed_on P synced None os p = p
passed_on P true (Some d) os p = p
passed_on P false (Some d) os p = p

one_outcome : {M D : Type 0} (P : M → Type 0) (synced : Bool) (brought : Option M)
    (denial : Option D) (os : List (Outcome M D)) → IfSome brought P → IfSome (last_accepted os) P
    → IfSome (last_accepted (option_map_or Accepted brought (denied_or_passed synced denial) ∷ os))
    P
one_outcome P synced None denial os b p = passed_on P synced denial os p
one_outcome P synced (Some m) denial os b p = b

-- what holds of the material of each event holds of the last accepted one
pub last_holds : {E M L D : Type 0} (s : Subject E M L D) (P : M → Type 0)
    → ((e : E) (m : M) → s.parsed e ≡ Some m → P m) → (events : List E)
    → IfSome (last_accepted (outcomes s events)) P
last_holds s P holds [] = tt
last_holds s P holds (e ∷ events) =
    let synced = has_synced s events in
    let now = last_moment s events in
    one_outcome P synced (brings s synced now e) (s.denial e) (outcomes s events)
    (kept_if P (λ m. synced || s.may_sync m now) (keep_if (s.is_within s.limits) (s.parsed e))
    (kept_if P (s.is_within s.limits) (s.parsed e) (if_known P (s.parsed e) (holds e))))
    (last_holds s P holds events)

-- the last accepted material
pub accepted_plain : (rules : Rules) (events : List Event)
    → IfSome (last_accepted (outcomes (subject rules) events)) PlainMaterial
accepted_plain rules events = last_holds (subject rules) PlainMaterial (event_plain rules) events
