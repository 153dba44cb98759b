-- A turn goes on without a moment.
use Rattle.std.proofs.Common.{◌≡◌, List, [], ◌∷◌, ◌++◌, reverse, Option, Result, Ok, Err, inl, inr}
use Rattle.std.proofs.Common.{subst}
use Rattle.std.specs.Prelude.{◌⊎◌}
use Rattle.spf_io.specs.declared.memory.OutOfMemory.{OutOfMemory}
use Rattle.spf_link.specs.declared.connector.Connector as connectors
use Rattle.spf_link.specs.declared.link.Link as links
use Rattle.spf_system.specs.declared.pacer.AttemptEnd.{AttemptEnd}
use Rattle.spf_feed.specs.declared.event.SessionEvent.{SessionEvent}
use Rattle.spf_feeder.specs.Asking.{AsksOnceFor}
use Rattle.spf_feeder.specs.Fed.{AsksInVain, FedOf, IsIdle, TurnsBy}
use Rattle.spf_feeder.specs.Kept.{Progress}
use Rattle.spf_feeder.specs.Kinds.{Kind}
use Rattle.spf_feeder.specs.Orderly.{GoesOn}
use Rattle.spf_feeder.proofs.OrderLemmas.{goes_nowhere, goes_once, no_moment, once_answers}

vain_goes : {S L I M B R N : Type 0} (k : Kind I M B R) (connector : connectors.Ghosts S L)
    (link : links.Ghosts L) (old new : FedOf S L (Progress N I))
    → AsksInVain k connector link old new → GoesOn old.core.run new.core.run
vain_goes {I = I} k connector link old new h = by_run h.run_is
  where
    by_run : (new.core.run ≡ old.core.run)
        ⊎ ((e : SessionEvent I) × (h.answer ≡ Ok e) × (new.core.run ≡ old.core.run ++ e ∷ []))
        → GoesOn old.core.run new.core.run
    by_run (inl same) = goes_nowhere old.core.run new.core.run same
    by_run (inr (e, is, run)) =
        let ask = k.ask (reverse old.core.run) in
        let once : AsksOnceFor {E = OutOfMemory} k.wanted connector link ask old.asked (Ok e)
        new.asked =
        subst (λ a. AsksOnceFor k.wanted connector link ask old.asked a new.asked) is h.asked in
        goes_once old.core.run new.core.run e
        (no_moment ask e
        (once_answers OutOfMemory k.wanted connector link ask old.asked new.asked e once)) run

away_goes : {S L I M B R N : Type 0} (k : Kind I M B R) (connector : connectors.Ghosts S L)
    (link : links.Ghosts L) (old new : FedOf S L (Progress N I))
    → IsIdle old new ⊎ AsksInVain k connector link old new → GoesOn old.core.run new.core.run
away_goes k connector link old new (inl idle) =
    goes_nowhere old.core.run new.core.run idle.run_is
away_goes k connector link old new (inr vain) = vain_goes k connector link old new vain

pub turn_goes : {S L I M B R N E : Type 0} (k : Kind I M B R) (connector : connectors.Ghosts S L)
    (link : links.Ghosts L) (records : N → Option (List R)) (old new : FedOf S L (Progress N I))
    (r : Result (Option AttemptEnd) E) → TurnsBy k connector link records old r new
    → GoesOn old.core.run new.core.run
turn_goes k connector link records old new (Ok end) h =
    let ask = k.ask (reverse old.core.run) in
    goes_once old.core.run new.core.run h.event
    (no_moment ask h.event
    (once_answers OutOfMemory k.wanted connector link ask old.asked new.asked h.event h.asked))
    h.advanced.run_is
turn_goes k connector link records old new (Err e) h = away_goes k connector link old new h.how
