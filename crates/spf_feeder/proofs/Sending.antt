-- A job whose fields may be sent to a thread may be sent, and so may what captures one value.
use denote.RattleType.{RattleType}
use denote.Param.Send.{IsSend, AllSend, recorded_send, struct_send, sendable}
use denote.Struct.Declared.{fields, shape}
use denote.Struct.Tuple.{TupleAt, type_at}
use mathlib.Core.List.{[], ◌∷◌}
use mir.Syntax.{Sym}
use Rattle.rand_core.specs.declared.Rng as draw
use Rattle.spf_link.specs.declared.connector.Connector as connector
use Rattle.spf_link.specs.declared.link.Link as link
use Rattle.spf_system.specs.declared.pause.Pause as pause
use Rattle.spf_board.specs.declared.entry.Kind as steps
use Rattle.spf_board.specs.declared.kind.Replay as replay
use Rattle.spf_board.specs.declared.shows.Shows as show
use Rattle.spf_feeder.specs.declared.rules.Governs as rule
use Rattle.spf_feeder.specs.declared.session.Session as session
use Rattle.spf_feeder.specs.declared.finishes.Finishes as finish
use Rattle.spf_feeder.specs.contracts.job.SupervisorJob as SupervisorJob
use Rattle.spf_feeder.specs.contracts.job.SupervisorJob.TheInside as inside

-- a job whose fields may be sent
module _ (C K S W N R L State Base Error Shot Step Rules P Item RuleStep Record Ended : RattleType)
    (connects : connector.Ghosts C.Denot L.Denot) (links : link.Ghosts L.Denot)
    (shows : show.Ghosts K.Denot State.Denot Base.Denot Error.Denot Shot.Denot Step.Denot)
    (replays : replay.Ghosts K.Denot Shot.Denot Step.Denot)
    (kinds : steps.Ghosts K.Denot Step.Denot)
    (sessions : session.Ghosts S.Denot Rules.Denot P.Denot Item.Denot RuleStep.Denot Record.Denot)
    (rules : rule.Ghosts Rules.Denot Item.Denot RuleStep.Denot Record.Denot)
    (finishes : finish.Ghosts P.Denot K.Denot S.Denot Ended.Denot State.Denot Base.Denot Error.Denot
    Shot.Denot Step.Denot Rules.Denot Item.Denot RuleStep.Denot Record.Denot)
    (pauses : pause.Ghosts W.Denot) (draws : draw.Ghosts N.Denot) where
  abbrev Inside : denote.Struct.Declared.Declared
  Inside = inside.the_type C K S W N R L State Base Error Shot Step Rules P Item RuleStep
      Record Ended connects links shows replays kinds sessions rules finishes pauses draws

  pub job_send : AllSend (fields Inside) → IsSend (SupervisorJob.the_row C K S W N R L State Base
      Error Shot Step Rules P Item RuleStep Record Ended connects links shows replays kinds sessions
      rules finishes pauses draws)
  job_send all =
      let sent : IsSend (denote.Struct.Declared.row Inside) =
      recorded_send _ _ _ Inside.to_one (struct_send (shape Inside) all) in
      search (sendable, sent)

-- the type of what may be sent
abbrev pub row_of : {T : RattleType} → IsSend T → RattleType
row_of {T} s = T

-- what captures one value may be sent as that value may
pub capture_send : (name : Sym) (R : RattleType) → IsSend R → IsSend (TupleAt name (R ∷ []))
capture_send name R s =
    recorded_send _ _ _ (type_at name (R ∷ [])).to_one
    (struct_send (shape (type_at name (R ∷ []))) (s, tt))
