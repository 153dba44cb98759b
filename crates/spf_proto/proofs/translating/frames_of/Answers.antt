use Rattle.std.proofs.Common.{◌≡◌, ◌∙◌, true, false, ap, subst, sym, arith, rules}
use Rattle.std.specs.Option.{option_map}
use Rattle.std.proofs.lemmas.Bool.Decides.{nat_tests}
use Rattle.spf_api.specs.Views.{context_of}
use Rattle.spf_api.specs.Layout.{context_payload}
use Rattle.spf_proto.specs.Translating.{ArePut}
use Rattle.spf_proto.proofs.TranslatingLemmas.{frames_made, known_is, response_large, response_long}
use Rattle.spf_proto.proofs.TranslatingLemmas.{response_none, response_some}
use Rattle.spf_proto.proofs.translating.frames_of.Goals as goal

pub returns-then-octets-gt-MAX_PAYLOAD-clause-translated : goal.returns-then-octets-gt-MAX_PAYLOAD-clause-translated
returns-then-octets-gt-MAX_PAYLOAD-clause-translated g c =
    response_long c.args.octets.now (grind (arith, nat_tests))

pub returns-in_default-clause-translated : goal.returns-in_default-clause-translated
returns-in_default-clause-translated g c =
    response_none c.args.octets.now
    (sym c.in_ok-view.ensures.exact ∙ ap (option_map context_of) c.in_default.is)

pub returns-then-not-branch-clause-translated : goal.returns-then-not-branch-clause-translated
returns-then-not-branch-clause-translated g c =
    let put : c.in_ok-put_frames.field-0 ≡ false = search rules in
    response_large c.args.octets.now (context_of c.in-Some.view)
    (sym c.in_ok-view.ensures.exact ∙ ap (option_map context_of) c.in-Some.is)
    (subst (ArePut c.args.position.is_open (context_payload (context_of c.in-Some.view))
    c.put_frames.new.frames.items) put c.in_ok-put_frames.ensures.frames)

pub returns-clause-translated : goal.returns-clause-translated
returns-clause-translated g c =
    let put : c.in_ok-put_frames.field-0 ≡ true = search rules in
    let are : ArePut c.args.position.is_open (context_payload (context_of c.in-Some.view))
    c.put_frames.new.frames.items true =
    subst (ArePut c.args.position.is_open (context_payload (context_of c.in-Some.view))
    c.put_frames.new.frames.items) put c.in_ok-put_frames.ensures.frames in
    record {
      response = context_of c.in-Some.view;
      says = response_some c.args.octets.now (context_of c.in-Some.view) (grind (arith, nat_tests))
          (sym c.in_ok-view.ensures.exact ∙ ap (option_map context_of) c.in-Some.is) are.0;
      laid = c.in_ok-put_frames.ensures.fits;
      frames_are = frames_made c.args.position.is_open (context_of c.in-Some.view)
          c.put_frames.new.frames.items are.1;
      standing_is = rw (← c.in_ok-context.ensures, ← c.as_ref-2.ensures.value)
          c.position_after-after.ensures;
    }

pub hold-requires-clause-reads : goal.hold-requires-clause-reads
hold-requires-clause-reads g c =
    let put : c.in_ok-put_frames.field-0 ≡ true = search rules in
    let are : ArePut c.args.position.is_open (context_payload (context_of c.in-Some.view))
    c.put_frames.new.frames.items true =
    subst (ArePut c.args.position.is_open (context_payload (context_of c.in-Some.view))
    c.put_frames.new.frames.items) put c.in_ok-put_frames.ensures.frames in
    rw (c.payload_start.ensures, c.as_slice.ensures.value)
    (known_is c.args.position.is_open (context_of c.in-Some.view) c.put_frames.new.frames.items
    c.in_ok-context.context c.in_ok-put_frames.ensures.fits are.1 c.in_ok-context.ensures)
