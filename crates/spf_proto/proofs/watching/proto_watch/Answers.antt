use Rattle.std.proofs.Common.{◌≡◌, ◌∙◌, arith, refl, sym, to_z, of_z, w64}
use Rattle.std.proofs.lemmas.Int.{ints, to_z-of_z}
use Rattle.spf_proto.proofs.WatchLemmas.{beginning_of, completes_of, headline_of, refuses}
use Rattle.spf_proto.proofs.WatchLemmas.{unprinted}
use Rattle.spf_proto.proofs.watching.proto_watch.Goals as goal

pub returns-in-None-clause-runs : goal.returns-in-None-clause-runs
returns-in-None-clause-runs g c =
    refuses _ _ _ _ c.put.result (sym c.in-None.is ∙ c.start_of.ensures.value) refl refl
    c.put.ensures.bytes c.put.ensures.cause

pub returns-in-None-clause-beginning : goal.returns-in-None-clause-beginning
returns-in-None-clause-beginning g c =
    unprinted _ _ _ _ (sym c.in-None.is ∙ c.start_of.ensures.value) refl

pub returns-in-Some-clause-beginning : goal.returns-in-Some-clause-beginning
returns-in-Some-clause-beginning g c =
    let same : to_z w64 (of_z w64 c.in-Some.start) ≡ c.in-Some.start =
    search (arith, ints, to_z-of_z) in
    beginning_of _ _ c.in-Some.start _ _ _ _ c.follow-end.result
    (sym c.in-Some.is ∙ c.start_of.ensures.value) same c.follow-end.ensures.follows

pub returns-in-Some-clause-headline : goal.returns-in-Some-clause-headline
returns-in-Some-clause-headline g c =
    let same : to_z w64 (of_z w64 c.in-Some.start) ≡ c.in-Some.start =
    search (arith, ints, to_z-of_z) in
    λ zero. headline_of _ _ c.in-Some.start _ _ _ _ c.follow-end.result c.report.result
    (sym c.in-Some.is ∙ c.start_of.ensures.value) same c.follow-end.ensures.follows
    c.report.ensures.status zero

pub returns-in-Some-clause-complete : goal.returns-in-Some-clause-complete
returns-in-Some-clause-complete g c =
    let same : to_z w64 (of_z w64 c.in-Some.start) ≡ c.in-Some.start =
    search (arith, ints, to_z-of_z) in
    completes_of _ _ c.in-Some.start _ _ _ _ c.follow-end.result c.report.result
    (sym c.in-Some.is ∙ c.start_of.ensures.value) same c.follow-end.ensures.follows
    c.report.ensures.status

pub returns-in-Some-clause-untouched : goal.returns-in-Some-clause-untouched
returns-in-Some-clause-untouched g c = λ none.
    let both = sym c.in-Some.is ∙ c.start_of.ensures.value ∙ none in absurd (cc)
