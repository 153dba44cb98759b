use Rattle.std.proofs.Common.{◌≡◌, ◌∙◌, ◌++◌, ◌∷◌, [], List, ℕ, length, ap, refl, rules}
use Rattle.spf_api.specs.Views.{context_of}
use Rattle.spf_api.specs.Layout.{context_payload}
use Rattle.spf_frame.specs.declared.frame_kind.TheConstants.{ITEM}
use Rattle.spf_proto.proofs.TranslatingLemmas.{frames_put}
use Rattle.spf_proto.proofs.translating.put_frames.Goals as goal

pub returns-clause-frames : goal.returns-clause-frames
returns-clause-frames c =
    let alone : c.extend_from_slice.new.self.items ≡ c.frames_before.result.now = search rules in
    let at : c.len-at.result ≡ length c.push.new.self.items = search rules in
    frames_put c.args.is_open (context_payload (context_of c.args.view.now)) c.push.new.self.items _
    c.put_context.new.out.items c.put_length.new.frames.items c.len-at.result c.put_length.result
    (c.in_ok-push.ensures.items
    ∙ ap (λ (l : List ℕ). l ++ ITEM ∷ []) (alone ∙ c.frames_before.ensures)) at
    refl
    (c.in_ok-put_context.ensures.octets
    ∙ ap (λ (l : List ℕ). l ++ context_payload (context_of c.args.view.now))
    c.in_ok-extend_from_slice-2.ensures.items) c.put_length.ensures
