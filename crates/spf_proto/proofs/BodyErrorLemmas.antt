-- What a body has where it is refused.
use Rattle.std.proofs.Common.{◌≡◌, ◌≢◌, ◌∙◌, ℕ, ◌+◌, ◌-◌, ◌<◌, Option, Some, None, List, [], ◌∷◌}
use Rattle.std.proofs.Common.{◌++◌}
use Rattle.std.proofs.Common.{length, Result, Ok, Err, refl, sym, subst, append_assoc, arith, inl}
use Rattle.std.proofs.Common.{inr}
use Rattle.std.specs.Io.KnownBytes.{Consumes}
use Rattle.spf_feed.specs.declared.follow_error.FollowError.TheVariants as follow_errors
use Rattle.spf_api.specs.declared.response.ContextResponse.{ContextResponse}
use Rattle.spf_proto.specs.declared.frame_end.FrameEnd.{FrameEnd}
use Rattle.spf_proto.specs.declared.frame_end.FrameEnd.TheVariants as ends
use Rattle.spf_proto.specs.declared.proto_error.ProtoError.{ProtoError}
use Rattle.spf_proto.specs.declared.proto_error.ProtoError.TheVariants as errors
use Rattle.spf_proto.specs.declared.taking.Stop.{Stop}
use Rattle.spf_proto.specs.declared.taking.Stop.TheVariants as stops
use Rattle.spf_proto.specs.Beginning.{Beginning}
use Rattle.spf_proto.specs.Body.{IsBody}
use Rattle.spf_proto.specs.Taking.{IsNoMessage}
use Rattle.spf_proto.specs.Translator.{Translating, IsTranslator}
use Rattle.spf_proto.specs.Ends.{IsEndedBy, IsReasonOf, IsResultOf, error_of}
use Rattle.spf_proto.specs.BodyErrors.{RefusedFor}

some_more : (xs ys : List ℕ) → xs ≢ [] → xs ++ ys ≢ []
some_more [] ys some is = some refl
some_more (x ∷ xs) ys some is = absurd cc

bad_at : (left left' : Option (List ℕ)) (messages : List ContextResponse) (text got : List ℕ)
    (allowed max : ℕ) → IsBody text messages → Consumes left left' (text ++ got)
    → length messages + allowed ≡ max → got ≢ [] → allowed ≢ 0 → IsNoMessage got left'
    → RefusedFor max left (Err (errors.BadMessage (max - allowed + 1)))
bad_at None left' messages text got allowed max body taken counted some more none = tt
bad_at (Some x) None messages text got allowed max body taken counted some more none =
    absurd taken
bad_at (Some x) (Some y) messages text got allowed max body taken counted some more none =
    let above : 0 < allowed = grind (arith, more) in
    record {
      messages = messages;
      text = text;
      rest = got ++ y;
      bytes_are = taken ∙ append_assoc text got y;
      body = body;
      number_is = omega (arith, counted);
      allowed = omega (arith, counted, above);
      some = some_more got y some;
      none = none;
    }

past_at : (left left' : Option (List ℕ)) (messages : List ContextResponse) (text got : List ℕ)
    (allowed max : ℕ) → IsBody text messages → Consumes left left' (text ++ got)
    → length messages + allowed ≡ max → got ≢ [] → allowed ≡ 0
    → RefusedFor max left (Err errors.TooManyMessages)
past_at None left' messages text got allowed max body taken counted some none = tt
past_at (Some x) None messages text got allowed max body taken counted some none = absurd taken
past_at (Some x) (Some y) messages text got allowed max body taken counted some none = record {
  messages = messages;
  text = text;
  rest = got ++ y;
  bytes_are = taken ∙ append_assoc text got y;
  body = body;
  full = omega (arith, counted, none);
  some = some_more got y some;
}

stop_tells : {T : Type 0} (loan : T → ℕ) (left : T → Option (List ℕ)) (failures : T → ℕ)
    (b : Beginning) (t : Translating T) (stop : Stop) → IsTranslator loan left failures b t
    → IsReasonOf left failures b t stop
    → RefusedFor b.max b.left (Err (error_of b.max t.allowed stop))
stop_tells loan left failures b t stops.BadMessage i reason =
    bad_at b.left (left t.source) i.messages i.text t.got t.allowed b.max i.are i.taken i.counted
    reason.0 reason.1 reason.3
stop_tells loan left failures b t stops.TooManyMessages i reason =
    past_at b.left (left t.source) i.messages i.text t.got t.allowed b.max i.are i.taken i.counted
    reason.0 reason.1
stop_tells loan left failures b t stops.SourceFailed i reason = tt
stop_tells loan left failures b t stops.OutOfMemory i reason = tt

end_tells : {T : Type 0} (loan : T → ℕ) (left : T → Option (List ℕ)) (failures : T → ℕ)
    (b : Beginning) (before : Option (List ℕ)) (t : Translating T) (end r : Result ℕ ProtoError)
    → IsTranslator loan left failures b t → RefusedFor b.max b.left end
    → IsEndedBy left failures b before t end r → RefusedFor b.max b.left r
end_tells loan left failures b before t end r i none (keeps, inl both) =
    subst (RefusedFor b.max b.left) (sym both.0) none
end_tells loan left failures b before t end r i none (keeps, inr (stop, is, reason)) =
    subst (RefusedFor b.max b.left) (sym is) (stop_tells loan left failures b t stop i reason)

pub result_tells : {T : Type 0} (loan : T → ℕ) (left : T → Option (List ℕ)) (failures : T → ℕ)
    (b : Beginning) (before : Option (List ℕ)) (t : Translating T) (end : FrameEnd)
    (r : Result ℕ ProtoError) → IsTranslator loan left failures b t
    → IsResultOf left failures b before t end r → RefusedFor b.max b.left r
result_tells loan left failures b before t (ends.Whole n) r i is =
    end_tells loan left failures b before t (Ok n) r i tt is
result_tells loan left failures b before t ends.NeverSynced r i is =
    end_tells loan left failures b before t (Err (errors.Follow follow_errors.NeverSynced)) r i tt
    is
result_tells loan left failures b before t ends.ReadFault r i is =
    subst (RefusedFor b.max b.left) (sym is.1.1)
    (stop_tells loan left failures b t is.1.0 i is.1.2)
result_tells loan left failures b before t ends.WriteFault r i is =
    subst (RefusedFor b.max b.left) (sym is) tt
result_tells loan left failures b before t ends.OutOfMemory r i is =
    subst (RefusedFor b.max b.left) (sym is) tt
