-- The feeder of a source of JWT bundles in these tests may be sent to a thread.
use denote.RattleType.{RattleType}
use denote.Param.Send.{IsSend, sendable}
use Rattle.std.specs.declared.sync.Wait.{Ghosts}
use Rattle.std.proofs.Crossing.{crosses}
use Rattle.spf_api.specs.contracts.response.BundlesResponse as BundlesResponse
use Rattle.spf_feed.specs.contracts.record.NoRecorder as NoRecorder
use Rattle.spf_jwt_feed.specs.contracts.record.JwtMetricsRecord as JwtMetricsRecord
use Rattle.spf_jwt_feed.specs.contracts.record.NoRecorderJwtMetricsRecorder.TheImpl as records
use Rattle.spf_jwt_feed.specs.contracts.step.JwtStep as JwtStep
use Rattle.spf_feeder.specs.contracts.feeder.SessionFeeder as SessionFeeder
use Rattle.spf_jwt_source.specs.contracts.rules.JwtRules as JwtRules
use Rattle.spf_jwt_source.specs.contracts.rules.JwtRulesGoverns.TheImpl as governs
use Rattle.spf_jwt_source.specs.contracts.session.JwtSession as JwtSession
use Rattle.spf_jwt_source.specs.contracts.session.JwtSessionSession.TheImpl as sessions
use Rattle.spf_jwt_source.specs.contracts.publishing.BoardPublisher as BoardPublisher
use Rattle.spf_jwt_source.specs.contracts.publishing.BoardPublisherJwtPublisher.TheImpl as publishes
use Rattle.spf_fixtures.specs.contracts.doubles.AgentConnector as AgentConnector
use Rattle.spf_fixtures.specs.contracts.doubles.AgentConnectorConnector.TheImpl as connects
use Rattle.spf_fixtures.specs.contracts.doubles.AgentLink as AgentLink
use Rattle.spf_fixtures.specs.contracts.doubles.AgentLinkLink.TheImpl as links
use Rattle.spf_feed.proofs.record.NoRecorder.TheSendSync as recorder
use Rattle.spf_jwt_source.proofs.session.JwtSession.TheSendSync as session
use Rattle.spf_jwt_source.proofs.publishing.BoardPublisher.TheSendSync as board
use Rattle.spf_fixtures.proofs.doubles.AgentConnector.TheSendSync as connector
use Rattle.spf_fixtures.proofs.doubles.AgentLink.TheSendSync as link

module _ (T : RattleType) (w : Ghosts T.Denot) (s : IsSend T) where
  board_send : IsSend (BoardPublisher.the_row T w)
  board_send = search (sendable, board.the_send, s)

  pub feeder_send : IsSend (SessionFeeder.the_field AgentConnector.the_row
      (JwtSession.the_row (BoardPublisher.the_row T w) NoRecorder.the_row
      (publishes.ghosts T w publishes.no_dict publishes.no_dict) records.ghosts)
      AgentLink.the_row JwtRules.the_row (BoardPublisher.the_row T w)
      BundlesResponse.the_row JwtStep.the_row JwtMetricsRecord.the_row connects.ghosts links.ghosts
      (sessions.ghosts (BoardPublisher.the_row T w) NoRecorder.the_row
      (publishes.ghosts T w publishes.no_dict publishes.no_dict) sessions.no_dict records.ghosts
      sessions.no_dict sessions.no_dict sessions.no_dict)
      governs.ghosts).row
  feeder_send =
      search (
        sendable,
        crosses,
        session.the_send,
        board_send,
        recorder.the_send,
        connector.the_send,
        link.the_send,
      ) depth 40
