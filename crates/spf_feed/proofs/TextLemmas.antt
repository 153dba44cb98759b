-- What is the text of a value is read as it, and what is read is its text.
use Rattle.std.proofs.Common.{◌≡◌, ℕ, zero, suc, ◌<◌, ◌^◌, Bool, true, false, cond, nat_lt, List}
use Rattle.std.proofs.Common.{[], ◌∷◌, ◌++◌, length, get_or, Option, Some, None, refl, sym, ap, ◌∙◌}
use Rattle.std.proofs.Common.{subst, arith}
use Rattle.std.specs.Prelude.{ℤ, pos, ◌==◌, ◌↔◌}
use Rattle.std.specs.Int.{w32, w64, to_be_bytes, from_be_bytes}
use Rattle.std.specs.Option.{option_map, option_and_then}
use Rattle.std.proofs.lemmas.Bool.Decides.{nat_tests}
use Rattle.std.proofs.lemmas.List.{append-nil}
use Rattle.std.proofs.lemmas.Nat.{from_be_bytes-to_be_bytes_8, be_bytes_8}
use Rattle.spf_api.specs.Layout.{field_text}
use Rattle.spf_api.specs.Payload.{IsRead}
use Rattle.spf_api.specs.Reading.{text_field_at, context_at}
use Rattle.spf_api.specs.Refused.{Refused}
use Rattle.spf_api.specs.Status.{code_at, code_number}
use Rattle.spf_api.specs.declared.link.ClientFault.{ClientFault}
use Rattle.spf_api.specs.declared.link.ClientFault.TheVariants as fault
use Rattle.spf_api.specs.declared.response.ContextResponse.{ContextResponse}
use Rattle.spf_api.specs.declared.response.Response.TheVariants as response
use Rattle.spf_api.specs.declared.response.ResponseKind.TheVariants as kinds
use Rattle.spf_api.specs.declared.status.GrpcStatusCode.{GrpcStatusCode}
use Rattle.spf_api.specs.declared.status.GrpcStatusCode.TheVariants as code
use Rattle.spf_api.proofs.Spelled.{text_fields}
use Rattle.spf_api.proofs.Payloads.{laid_is_read, finds}
use Rattle.spf_view.specs.Sessions.{IsFrame}
use Rattle.spf_feed.specs.declared.event.SessionEvent.{SessionEvent}
use Rattle.spf_feed.specs.declared.event.SessionEvent.TheVariants as events
use Rattle.spf_feed.specs.Events.{text_at, status_at, failure_at, moment_at, when_empty, event_at}
use Rattle.spf_feed.specs.Items.{Event, Rules}
use Rattle.spf_feed.specs.Frames.{sized}
use Rattle.spf_feed.specs.Run.{stream}
use Rattle.spf_feed.specs.Texts.{AreOctets, FieldText, StatusText, FailureText, MomentText}
use Rattle.spf_feed.specs.Texts.{EventText, ItemText, FrameText}

octets_at : (bytes : List ℕ) → AreOctets bytes → (i : ℕ) → get_or bytes i 0 < 256
octets_at [] are i = omega arith
octets_at (x ∷ bytes) are zero = are.0
octets_at (x ∷ bytes) are (suc i) = octets_at bytes are.1 i

-- the two ways of a test that finds something
tested : {E Q : Type 0} (n k : ℕ) (found rest : Option E) (e : E)
    → cond (n == k) found rest ≡ Some e → (n ≡ k → found ≡ Some e → Q) → (rest ≡ Some e → Q) → Q
tested {E} {Q} n k found rest e h here later = by (n == k) refl h
  where
    by : (b : Bool) → (n == k) ≡ b → cond b found rest ≡ Some e → Q
    by true is h = here (grind (arith, nat_tests)) h
    by false is h = later h

-- what a mapped option holds
mapped : {A B Q : Type 0} (f : A → B) (o : Option A) (y : B) → option_map f o ≡ Some y
    → ((x : A) → o ≡ Some x → f x ≡ y → Q) → Q
mapped f None y h on = cc
mapped f (Some x) y h on = on x refl cc

-- ---- text fields

text_again : (bytes text : List ℕ) → FieldText bytes text → text_at bytes ≡ Some text
unfolding text_at
text_again bytes text h =
    ap text_at (h.octets ∙ sym (append-nil (field_text text)))
    ∙ ap (option_and_then (λ (t : List ℕ × List ℕ). cond (length t.1 == 0) (Some t.0) None))
    (text_fields.again text [] h.is_text)

text_takes : (bytes text : List ℕ) → AreOctets bytes → text_at bytes ≡ Some text
    → FieldText bytes text
unfolding text_at
text_takes bytes text are h = by (text_field_at bytes) refl h
  where
    two : (a rest : List ℕ) → text_field_at bytes ≡ Some (a, rest)
        → cond (length rest == 0) (Some a) None ≡ Some text → FieldText bytes text
    two a [] is h =
        let same : a ≡ text = cc in
        let took = text_fields.takes bytes a [] (octets_at bytes are) is in
        subst (FieldText bytes) same
        (record { is_text = took.0; octets = took.1 ∙ append-nil (field_text a) })
    two a (x ∷ rest) is h = let off : (suc (length rest) == 0) ≡ false = grind (arith, nat_tests) in
        cc

    by : (o : Option (List ℕ × List ℕ)) → text_field_at bytes ≡ o
        → option_and_then (λ (t : List ℕ × List ℕ). cond (length t.1 == 0) (Some t.0) None) o
        ≡ Some text → FieldText bytes text
    by None is h = cc
    by (Some t) is h = two t.0 t.1 is h

pub text_exactly : (bytes text : List ℕ) → AreOctets bytes
    → (text_at bytes ≡ Some text) ↔ FieldText bytes text
text_exactly bytes text are = (text_takes bytes text are, text_again bytes text)

-- ---- statuses

code_again : (c : GrpcStatusCode) → code_at (code_number c) ≡ Some c
code_again code.Ok = refl
code_again code.Cancelled = refl
code_again code.Unknown = refl
code_again code.InvalidArgument = refl
code_again code.DeadlineExceeded = refl
code_again code.NotFound = refl
code_again code.AlreadyExists = refl
code_again code.PermissionDenied = refl
code_again code.ResourceExhausted = refl
code_again code.FailedPrecondition = refl
code_again code.Aborted = refl
code_again code.OutOfRange = refl
code_again code.Unimplemented = refl
code_again code.Internal = refl
code_again code.Unavailable = refl
code_again code.DataLoss = refl
code_again code.Unauthenticated = refl

numbered : (n k : ℕ) (x c : GrpcStatusCode) (rest : Option GrpcStatusCode) → code_number x ≡ k
    → cond (n == k) (Some x) rest ≡ Some c → (rest ≡ Some c → n ≡ code_number c) → n ≡ code_number c
numbered n k x c rest is h more =
    tested n k (Some x) rest c h
    (λ same e. let one : x ≡ c = cc in same ∙ sym is ∙ ap code_number one) more

code_takes : (n : ℕ) (c : GrpcStatusCode) → code_at n ≡ Some c → n ≡ code_number c
code_takes n c h =
    numbered n 0 code.Ok c _ refl h (λ h.
    numbered n 1 code.Cancelled c _ refl h (λ h.
    numbered n 2 code.Unknown c _ refl h (λ h.
    numbered n 3 code.InvalidArgument c _ refl h (λ h.
    numbered n 4 code.DeadlineExceeded c _ refl h (λ h.
    numbered n 5 code.NotFound c _ refl h (λ h.
    numbered n 6 code.AlreadyExists c _ refl h (λ h.
    numbered n 7 code.PermissionDenied c _ refl h (λ h.
    numbered n 8 code.ResourceExhausted c _ refl h (λ h.
    numbered n 9 code.FailedPrecondition c _ refl h (λ h.
    numbered n 10 code.Aborted c _ refl h (λ h.
    numbered n 11 code.OutOfRange c _ refl h (λ h.
    numbered n 12 code.Unimplemented c _ refl h (λ h.
    numbered n 13 code.Internal c _ refl h (λ h.
    numbered n 14 code.Unavailable c _ refl h (λ h.
    numbered n 15 code.DataLoss c _ refl h (λ h.
    numbered n 16 code.Unauthenticated c None refl h (λ h. cc)))))))))))))))))

-- no code is 255
small_code : (c : GrpcStatusCode) → (code_number c == 255) ≡ false
small_code code.Ok = refl
small_code code.Cancelled = refl
small_code code.Unknown = refl
small_code code.InvalidArgument = refl
small_code code.DeadlineExceeded = refl
small_code code.NotFound = refl
small_code code.AlreadyExists = refl
small_code code.PermissionDenied = refl
small_code code.ResourceExhausted = refl
small_code code.FailedPrecondition = refl
small_code code.Aborted = refl
small_code code.OutOfRange = refl
small_code code.Unimplemented = refl
small_code code.Internal = refl
small_code code.Unavailable = refl
small_code code.DataLoss = refl
small_code code.Unauthenticated = refl

status_again : (bytes : List ℕ) (s : Refused) → StatusText bytes s → status_at bytes ≡ Some s
unfolding status_at
status_again bytes s h =
    ap status_at h.octets
    ∙ ap (option_and_then
    (λ (c : GrpcStatusCode).
    option_map (λ (m : List ℕ). record { code = c; message = m; source = None })
    (text_at (field_text s.message)))) (code_again s.code)
    ∙ ap (option_map (λ (m : List ℕ). record { code = s.code; message = m; source = None }))
    (text_again (field_text s.message) s.message (record { is_text = h.message; octets = refl }))
    ∙ (λ i. Some (record { code = s.code; message = s.message; source = sym h.no_source i }))

status_takes : (bytes : List ℕ) (s : Refused) → AreOctets bytes → status_at bytes ≡ Some s
    → StatusText bytes s
unfolding status_at
status_takes [] s are h = cc
status_takes (n ∷ rest) s are h = by (code_at n) (text_at rest) refl refl h
  where
    by : (o : Option GrpcStatusCode) (t : Option (List ℕ)) → code_at n ≡ o → text_at rest ≡ t
        → option_and_then
        (λ (c : GrpcStatusCode).
        option_map (λ (m : List ℕ). record { code = c; message = m; source = None }) t) o ≡ Some s
        → StatusText (n ∷ rest) s
    by None t a b h = cc
    by (Some c) None a b h = cc
    by (Some c) (Some m) a b h =
        let same : of_made c m ≡ s = cc in
        let field = text_takes rest m are.1 b in
        subst (StatusText (n ∷ rest)) same
        (record {
          message = field.is_text;
          no_source = refl;
          octets = (λ i. code_takes n c a i ∷ field.octets i);
        })
      where
        of_made : GrpcStatusCode → List ℕ → Refused
        of_made x y = record { code = x; message = y; source = None }

pub status_exactly : (bytes : List ℕ) (s : Refused) → AreOctets bytes
    → (status_at bytes ≡ Some s) ↔ StatusText bytes s
status_exactly bytes s are = (status_takes bytes s are, status_again bytes s)

-- ---- client failures

failure_again : (bytes : List ℕ) (e : ClientFault) → FailureText bytes e → failure_at bytes ≡ Some e
unfolding failure_at
failure_again bytes (fault.Status s) h =
    ap failure_at h.octets
    ∙ ap (λ b. cond b (option_map fault.Unreachable (text_at (field_text s.message)))
    (option_map fault.Status (status_at (code_number s.code ∷ field_text s.message))))
    (small_code s.code)
    ∙ ap (option_map fault.Status) (ap status_at (sym h.octets) ∙ status_again bytes s h)
failure_again bytes (fault.Unreachable text) h =
    ap failure_at h.1
    ∙ ap (option_map fault.Unreachable)
    (text_again (field_text text) text (record { is_text = h.0; octets = refl }))
failure_again bytes fault.OutOfMemory h = absurd h

failure_takes : (bytes : List ℕ) (e : ClientFault) → AreOctets bytes → failure_at bytes ≡ Some e
    → FailureText bytes e
unfolding failure_at
failure_takes [] e are h = cc
failure_takes (n ∷ rest) e are h =
    tested n 255 (option_map fault.Unreachable (text_at rest))
    (option_map fault.Status (status_at (n ∷ rest))) e h
    (λ same found. mapped fault.Unreachable (text_at rest) e found (λ text is made.
    let field = text_takes rest text are.1 is in
    subst (FailureText (n ∷ rest)) made (field.is_text, (λ i. same i ∷ field.octets i))))
    (λ found. mapped fault.Status (status_at (n ∷ rest)) e found
    (λ s is made. subst (FailureText (n ∷ rest)) made (status_takes (n ∷ rest) s are is)))

pub failure_exactly : (bytes : List ℕ) (e : ClientFault) → AreOctets bytes
    → (failure_at bytes ≡ Some e) ↔ FailureText bytes e
failure_exactly bytes e are = (failure_takes bytes e are, failure_again bytes e)

-- ---- moments

moment_again : (bytes : List ℕ) (m : ℤ) → MomentText bytes m → moment_at bytes ≡ Some m
unfolding moment_at
moment_again bytes m h =
    let back : from_be_bytes w64 (to_be_bytes w64 h.seconds) ≡ h.seconds =
    from_be_bytes-to_be_bytes_8 h.seconds (let small = h.fits in omega arith) in
    let fits : nat_lt h.seconds (2 ^ 63) ≡ true = let small = h.fits in grind (arith, nat_tests) in
    ap moment_at h.octets ∙ ap (λ n. cond (nat_lt n (2 ^ 63)) (Some (pos n)) None) back
    ∙ ap (λ b. cond b (Some (pos h.seconds)) None) fits ∙ ap Some (sym h.is)

moment_takes : (bytes : List ℕ) (m : ℤ) → AreOctets bytes → moment_at bytes ≡ Some m
    → MomentText bytes m
unfolding moment_at
moment_takes bytes m are h =
    by (length bytes == 8) (nat_lt (from_be_bytes w64 bytes) (2 ^ 63)) refl refl h
  where
    by : (a b : Bool) → (length bytes == 8) ≡ a → nat_lt (from_be_bytes w64 bytes) (2 ^ 63) ≡ b
        → cond a (cond b (Some (pos (from_be_bytes w64 bytes))) None) None ≡ Some m
        → MomentText bytes m
    by true true p q h = record {
      seconds = from_be_bytes w64 bytes;
      fits = grind (arith, nat_tests);
      is = cc;
      octets = sym
          (be_bytes_8 bytes (from_be_bytes w64 bytes) (grind (arith, nat_tests))
          (octets_at bytes are) refl);
    }
    by true false p q h = cc
    by false b p q h = cc

pub moment_exactly : (bytes : List ℕ) (m : ℤ) → AreOctets bytes
    → (moment_at bytes ≡ Some m) ↔ MomentText bytes m
moment_exactly bytes m are = (moment_takes bytes m are, moment_again bytes m)

-- ---- items

item_takes : (bytes : List ℕ) (r : ContextResponse) → AreOctets bytes → context_at bytes ≡ Some r
    → ItemText bytes r
unfolding IsRead
item_takes bytes r are h =
    finds kinds.Context bytes (Some (response.Context r)) (octets_at bytes are)
    (sym (ap (option_map response.Context) h))

item_again : (bytes : List ℕ) (r : ContextResponse) → ItemText bytes r → context_at bytes ≡ Some r
unfolding IsRead
item_again bytes r h =
    mapped response.Context (context_at bytes) (response.Context r)
    (sym (laid_is_read kinds.Context bytes (response.Context r) h))
    (λ found is same. is ∙ ap Some cc)

pub item_exactly : (bytes : List ℕ) (r : ContextResponse) → AreOctets bytes
    → (context_at bytes ≡ Some r) ↔ ItemText bytes r
item_exactly bytes r are = (item_takes bytes r are, item_again bytes r)

-- ---- events

empty_is : {I : Type 0} (payload : List ℕ) (e f : SessionEvent I) → when_empty payload e ≡ Some f
    → (payload ≡ []) × (e ≡ f)
empty_is [] e f h = (refl, cc)
empty_is (x ∷ payload) e f h = let off : (suc (length payload) == 0) ≡ false =
    grind (arith, nat_tests) in cc

event_again : {I : Type 0} (item_at : List ℕ → Option I) (IsItem : List ℕ → I → Type 0)
    → ((b : List ℕ) (i : I) → IsItem b i → item_at b ≡ Some i)
    → (kind : ℕ) (payload : List ℕ) (e : SessionEvent I) → EventText IsItem kind payload e
    → event_at item_at kind payload ≡ Some e
unfolding event_at
event_again item_at IsItem items kind payload events.ClientMade h =
    (λ i. event_at item_at (h.0 i) (h.1 i))
event_again item_at IsItem items kind payload (events.ClientFailed e) h =
    ap (λ k. event_at item_at k payload) h.0
    ∙ ap (option_map events.ClientFailed) (failure_again payload e h.1)
event_again item_at IsItem items kind payload events.Connected h =
    (λ i. event_at item_at (h.0 i) (h.1 i))
event_again item_at IsItem items kind payload (events.ConnectStatus s) h =
    ap (λ k. event_at item_at k payload) h.0
    ∙ ap (option_map events.ConnectStatus) (status_again payload s h.1)
event_again item_at IsItem items kind payload (events.Item i) h =
    ap (λ k. event_at item_at k payload) h.0 ∙ ap (option_map events.Item) (items payload i h.1)
event_again item_at IsItem items kind payload (events.ItemStatus s) h =
    ap (λ k. event_at item_at k payload) h.0
    ∙ ap (option_map events.ItemStatus) (status_again payload s h.1)
event_again item_at IsItem items kind payload events.StreamEnd h =
    (λ i. event_at item_at (h.0 i) (h.1 i))
event_again item_at IsItem items kind payload (events.Moment m) h =
    ap (λ k. event_at item_at k payload) h.0
    ∙ ap (option_map events.Moment) (moment_again payload m h.1)
event_again item_at IsItem items kind payload events.Close h =
    (λ i. event_at item_at (h.0 i) (h.1 i))

event_takes : {I : Type 0} (item_at : List ℕ → Option I) (IsItem : List ℕ → I → Type 0)
    → ((b : List ℕ) (i : I) → AreOctets b → item_at b ≡ Some i → IsItem b i)
    → (kind : ℕ) (payload : List ℕ) (e : SessionEvent I) → AreOctets payload
    → event_at item_at kind payload ≡ Some e → EventText IsItem kind payload e
unfolding event_at
event_takes {I} item_at IsItem items kind payload e are h =
    let Is : SessionEvent I → Type 0 = EventText IsItem kind payload in
    tested kind 1 _ _ e h
    (λ k f. let p = empty_is payload events.ClientMade e f in subst Is p.1 (k, p.0)) (λ h.
    tested kind 2 _ _ e h
    (λ k f. mapped events.ClientFailed (failure_at payload) e f
    (λ x is same. subst Is same (k, failure_takes payload x are is))) (λ h.
    tested kind 3 _ _ e h
    (λ k f. let p = empty_is payload events.Connected e f in subst Is p.1 (k, p.0)) (λ h.
    tested kind 4 _ _ e h
    (λ k f. mapped events.ConnectStatus (status_at payload) e f
    (λ x is same. subst Is same (k, status_takes payload x are is))) (λ h.
    tested kind 5 _ _ e h
    (λ k f. mapped events.Item (item_at payload) e f
    (λ x is same. subst Is same (k, items payload x are is))) (λ h.
    tested kind 6 _ _ e h
    (λ k f. mapped events.ItemStatus (status_at payload) e f
    (λ x is same. subst Is same (k, status_takes payload x are is))) (λ h.
    tested kind 7 _ _ e h
    (λ k f. let p = empty_is payload events.StreamEnd e f in subst Is p.1 (k, p.0)) (λ h.
    tested kind 8 _ _ e h
    (λ k f. mapped events.Moment (moment_at payload) e f
    (λ x is same. subst Is same (k, moment_takes payload x are is))) (λ h.
    tested kind 9 _ None e h
    (λ k f. let p = empty_is payload events.Close e f in subst Is p.1 (k, p.0)) (λ h. cc)))))))))

pub event_exactly : (kind : ℕ) (payload : List ℕ) (e : Event) → AreOctets payload
    → (event_at context_at kind payload ≡ Some e) ↔ EventText ItemText kind payload e
event_exactly kind payload e are = (
  event_takes context_at ItemText item_takes kind payload e are,
  event_again context_at ItemText item_again kind payload e,
)

-- ---- frames

-- the octets of a payload are octets of its frame
octets_after : (front rest : List ℕ) → AreOctets (front ++ rest) → AreOctets rest
octets_after [] rest are = are
octets_after (x ∷ front) rest are = octets_after front rest are.1

pub frame_exactly : (rules : Rules) (past : List Event) (bytes : List ℕ) (e : Event)
    → AreOctets bytes
    → IsFrame (stream rules) past bytes e
    ↔ ((f : FrameText ItemText bytes e) × ((stream rules).allows past f.kind ≡ true))
unfolding sized
frame_exactly rules past bytes e are = (
  λ h. (
    record {
      kind = h.kind;
      payload = h.payload;
      fits = h.short;
      event = (event_exactly h.kind h.payload e
          (octets_after (h.kind ∷ to_be_bytes w32 (length h.payload)) h.payload
          (subst AreOctets h.text are))).0 h.lays_out;
      octets = h.text;
    },
    h.allowed,
  ),
  λ h. record {
    kind = h.0.kind;
    payload = h.0.payload;
    text = h.0.octets;
    short = h.0.fits;
    allowed = h.1;
    lays_out = (event_exactly h.0.kind h.0.payload e
        (octets_after (h.0.kind ∷ to_be_bytes w32 (length h.0.payload)) h.0.payload
        (subst AreOctets h.0.octets are))).1 h.0.event;
  },
)
