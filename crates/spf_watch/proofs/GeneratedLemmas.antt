-- Generated sessions, as they are put together.
use Rattle.std.proofs.Common.{◌≡◌, ◌∙◌, refl, ap, sym, ℕ, suc, ◌%◌, ◌<◌, Bool, true, false, Option}
use Rattle.std.proofs.Common.{Some, List, [], ◌∷◌, ◌++◌, length, arith, append_assoc, length-append}
use Rattle.std.proofs.lemmas.List.{append-nil}
use Rattle.std.specs.Prelude.{◌==◌, nat_lt, if◌then◌else◌}
use Rattle.std.specs.Int.{w32, to_be_bytes}
use Rattle.spf_der.specs.Value.{length_octets}
use Rattle.spf_der.specs.Written.{certificate_text}
use Rattle.spf_der.specs.WrittenTime.{expiry_text}
use Rattle.spf_api.specs.declared.response.ContextResponse.{ContextResponse}
use Rattle.spf_api.specs.declared.response.Response.TheVariants as response
use Rattle.spf_api.specs.declared.response.SvidEntry.{SvidEntry}
use Rattle.spf_api.specs.Layout.{context_payload, field_text}
use Rattle.spf_api.specs.Payload.{Payload, kind_of}
use Rattle.spf_view.specs.Frames.{sized}
use Rattle.spf_watch.specs.declared.generated.Variant.{Variant}
use Rattle.spf_watch.specs.declared.generated.Variant.TheVariants as variants
use Rattle.spf_watch.specs.declared.generated.Workload.{Workload}
use Rattle.spf_watch.specs.declared.template.Template.{Template}
use Rattle.spf_watch.specs.MadeSession.{client_frames, close_frame, denial_frame, end_frame}
use Rattle.spf_watch.specs.MadeSession.{entry, frames_by, frames_from, frames_left}
use Rattle.spf_watch.specs.MadeSession.{expiry_of, generation_by, item, item_frame}
use Rattle.spf_watch.specs.MadeSession.{next_seed, leaf}
use Rattle.spf_watch.specs.MadeSession.{leaf_spec, moment_frame, root, root_spec, intermediate}
use Rattle.spf_watch.specs.MadeSession.{intermediate_spec}
use Rattle.spf_watch.specs.GeneratedParts.{Yields, IsExpiry, IsWorkload}
use Rattle.spf_watch.proofs.MadeSessionRows.{expiry_is}
use Rattle.spf_watch.specs.Template.{IsTemplate, before, dated, tbs_after, tbs_before, tbs_size}

-- ---- offsets

pub root_offset : (serial : ℕ) → 33 ≡ length (before (root_spec serial 0))
unfolding before tbs_size tbs_before tbs_after length_octets
root_offset serial = refl

pub intermediate_offset : 38 ≡ length (before (intermediate_spec 0))
unfolding before tbs_size tbs_before tbs_after length_octets
intermediate_offset = refl

pub leaf_offset : (index : ℕ) → 39 ≡ length (before (leaf_spec index 0))
unfolding before tbs_size tbs_before tbs_after length_octets
leaf_offset index = refl

-- ---- items

-- a certificate of a template, with the expiry of a generation
pub dated_root : (serial generation : ℕ) (t : Template) (time : List ℕ)
    → IsTemplate (root_spec serial 0) t → IsExpiry generation time
    → dated t time ≡ root serial generation
dated_root serial generation t time is expiry =
    is time expiry.size ∙ ap (certificate_text (root_spec serial generation)) expiry.is

dated_intermediate : (generation : ℕ) (t : Template) (time : List ℕ)
    → IsTemplate (intermediate_spec 0) t → IsExpiry generation time
    → dated t time ≡ intermediate generation
dated_intermediate generation t time is expiry =
    is time expiry.size ∙ ap (certificate_text (intermediate_spec generation)) expiry.is

dated_leaf : (index generation : ℕ) (t : Template) (time : List ℕ)
    → IsTemplate (leaf_spec index 0) t → IsExpiry generation time
    → dated t time ≡ leaf index generation
dated_leaf index generation t time is expiry =
    is time expiry.size ∙ ap (certificate_text (leaf_spec index generation)) expiry.is

-- the entry of a workload
pub entry_of_workload : (index generation : ℕ) (w : Workload) (t : Template)
    (time key key' bundle bundle' : List ℕ) (e : SvidEntry) → IsWorkload index w
    → IsTemplate (intermediate_spec 0) t
    → IsExpiry generation time → key ≡ key' → bundle ≡ bundle'
    → e ≡ record {
      spiffe_id = w.identity;
      x509_svid = dated w.leaf time ++ dated t time;
      x509_svid_key = key;
      bundle = bundle;
      hint = [];
    }
    → e ≡ entry generation index key' bundle'
entry_of_workload index generation w t time key key' bundle bundle' e is above expiry keys bundles
    made =
    made
    ∙ (λ i. record {
      spiffe_id = is.identity_is i;
      x509_svid =
          dated_leaf index generation w.leaf time is.leaf_is expiry i
          ++ dated_intermediate generation t time above expiry i;
      x509_svid_key = keys i;
      bundle = bundles i;
      hint = [];
    })

pub payload_is : (r : ContextResponse) (bytes : List ℕ)
    → Payload (kind_of (response.Context r)) bytes (response.Context r) → bytes ≡ context_payload r
unfolding Payload
payload_is r bytes p = p.octets

regroup : (old a b : List ℕ) → old ++ 5 ∷ [] ++ a ++ b ≡ old ++ 5 ∷ (a ++ b)
regroup old a b = simp append_assoc

-- the frame of an item, put after what was there
pub item_put : (variant : Variant) (generation : ℕ) (old payload : List ℕ)
    → payload ≡ context_payload (item variant generation)
    → old ++ 5 ∷ [] ++ to_be_bytes w32 (length payload) ++ payload
    ≡ old ++ item_frame variant generation
unfolding item_frame sized
item_put variant generation old payload is =
    regroup old (to_be_bytes w32 (length payload)) payload
    ∙ ap (λ (p : List ℕ). old ++ 5 ∷ (to_be_bytes w32 (length p) ++ p)) is

-- ---- frames

pub moment_is : 8 ∷ 0 ∷ 0 ∷ 0 ∷ 8 ∷ 0 ∷ 0 ∷ 0 ∷ 0 ∷ 0 ∷ 0 ∷ 3 ∷ 232 ∷ [] ≡ moment_frame
unfolding sized
moment_is = refl

abbrev pub client_octets : List ℕ
client_octets = 1 ∷ 0 ∷ 0 ∷ 0 ∷ 0 ∷ 3 ∷ 0 ∷ 0 ∷ 0 ∷ 0 ∷ []

pub client_is : client_octets ≡ client_frames
unfolding sized
client_is = refl

pub denial_is : 6 ∷ 0 ∷ 0 ∷ 0 ∷ 7 ∷ 7 ∷ 0 ∷ 0 ∷ 0 ∷ 2 ∷ 110 ∷ 111 ∷ [] ≡ denial_frame
unfolding sized field_text
denial_is = refl

pub end_is : 7 ∷ 0 ∷ 0 ∷ 0 ∷ 0 ∷ [] ≡ end_frame
unfolding sized
end_is = refl

pub close_is : 9 ∷ 0 ∷ 0 ∷ 0 ∷ 0 ∷ [] ≡ close_frame
unfolding sized
close_is = refl

-- ---- what comes next

some_if : (b : Bool) (x y : List ℕ) → 0 < length x → 0 < length y → 0 < length (if b then x else y)
some_if true x y p q = p
some_if false x y p q = q

some_more : (x y : List ℕ) → 0 < length x → 0 < length (x ++ y)
some_more x y p = omega (arith, p, length-append x y)

item_some : (variant : Variant) (generation : ℕ) → 0 < length (item_frame variant generation)
unfolding item_frame
item_some variant generation = omega arith

-- an operation has frames
frames_some : (choice generation : ℕ) → 0 < length (frames_by choice generation)
unfolding frames_by
frames_some choice generation =
    let plain = item_some variants.Plain generation in
    let turned = item_some variants.Reordered generation in
    let bad = some_more (item_frame variants.BadKey generation) client_frames
    (item_some variants.BadKey generation) in
    let denied : 0 < length (denial_frame ++ client_frames) = omega arith in
    let ended : 0 < length (end_frame ++ client_frames) = omega arith in
    some_if (nat_lt choice 4) _ _ plain
    (some_if (choice == 4) _ _ turned
    (some_if (choice == 5) _ _ denied (some_if (choice == 6) _ _ ended bad)))

-- the close, and then nothing
pub yields_close : (old frames : List ℕ) (left : Option ℕ) (seed generation : ℕ)
    → frames_left left seed generation ≡ old → left ≡ Some 0 → frames ≡ close_frame
    → Yields true old [] frames
yields_close old frames left seed generation is at same =
    let whole : old ≡ close_frame =
    sym is ∙ ap (λ (l : Option ℕ). frames_left l seed generation) at in
    record {
      next = whole ∙ sym same ∙ sym (append-nil frames);
      ended = λ no. absurd cc;
      some = λ yes. let size : length frames ≡ length close_frame = ap length same in
          omega (arith, size);
    }

-- an operation, and then the rest
pub yields_operation : (old frames : List ℕ) (left : Option ℕ) (k n seed generation : ℕ)
    → frames_left left seed generation ≡ old → left ≡ Some k → k ≡ suc n
    → frames ≡ frames_by (next_seed seed % 8) (generation_by (next_seed seed) generation)
    → Yields true old (frames_from n (next_seed seed) (generation_by (next_seed seed) generation))
    frames
yields_operation old frames left k n seed generation is at more same =
    record {
      next = sym is ∙ ap (λ (l : Option ℕ). frames_left l seed generation) (at ∙ ap Some more)
          ∙ ap (λ (l : List ℕ). l
          ++ frames_from n (next_seed seed) (generation_by (next_seed seed) generation)) (sym same);
      ended = λ no. absurd cc;
      some = λ yes. let size : length frames
          ≡ length (frames_by (next_seed seed % 8) (generation_by (next_seed seed) generation)) =
          ap length same in
          omega (
            arith,
            size,
            frames_some (next_seed seed % 8) (generation_by (next_seed seed) generation),
          );
    }

-- ---- what was put

-- a frame, and then a client
pub put_client : (old frame : List ℕ)
    → old ++ frame ++ client_octets ≡ old ++ (frame ++ client_frames)
put_client old frame =
    append_assoc old frame client_octets ∙ ap (λ (l : List ℕ). old ++ (frame ++ l)) client_is

-- a Time of the expiry of a generation
pub is_expiry : (generation : ℕ) (text : List ℕ) → generation < 73600
    → text ≡ expiry_text (expiry_of generation) → IsExpiry generation text
is_expiry generation text fits is =
    record { is = is; size = ap length (is ∙ expiry_is generation fits) }
