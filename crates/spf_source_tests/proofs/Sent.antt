-- The feeder of a source of these tests may be sent to a thread.
use denote.RattleType.{RattleType}
use denote.Param.Send.{IsSend, sendable}
use Rattle.std.specs.declared.sync.Wait.{Ghosts}
use Rattle.std.proofs.Crossing.{crosses}
use Rattle.spf_api.specs.contracts.response.ContextResponse as ContextResponse
use Rattle.spf_feed.specs.contracts.record.MetricsRecord as MetricsRecord
use Rattle.spf_feed.specs.contracts.step.Step as Step
use Rattle.spf_feeder.specs.contracts.feeder.SessionFeeder as SessionFeeder
use Rattle.spf_feeder.specs.contracts.x509_rules.X509Rules as X509Rules
use Rattle.spf_feeder.specs.contracts.x509_rules.X509RulesGoverns.TheImpl as governs
use Rattle.spf_feeder.specs.contracts.x509_session.X509Session as X509Session
use Rattle.spf_feeder.specs.contracts.x509_session.X509SessionSession.TheImpl as sessions
use Rattle.spf_feeder.proofs.x509_session.X509Session.TheSendSync as session
use Rattle.spiffe.specs.contracts.publishing.BoardPublisher as BoardPublisher
use Rattle.spiffe.specs.contracts.publishing.BoardPublisherPublisher.TheImpl as publishes
use Rattle.spiffe.proofs.publishing.BoardPublisher.TheSendSync as board
use Rattle.spf_fixtures.specs.contracts.doubles.HeldRecorder as HeldRecorder
use Rattle.spf_fixtures.specs.contracts.doubles.HeldRecorderMetricsRecorder.TheImpl as records
use Rattle.spf_feed.specs.contracts.picker.NoPicker as NoPicker
use Rattle.spf_feed.specs.contracts.picker.NoPickerSvidPicker.TheImpl as picks
use Rattle.spf_fixtures.specs.contracts.doubles.AgentConnector as AgentConnector
use Rattle.spf_fixtures.specs.contracts.doubles.AgentConnectorConnector.TheImpl as connects
use Rattle.spf_fixtures.specs.contracts.doubles.AgentLink as AgentLink
use Rattle.spf_fixtures.specs.contracts.doubles.AgentLinkLink.TheImpl as links
use Rattle.spf_feed.proofs.picker.NoPicker.TheSendSync as picker
use Rattle.spf_fixtures.proofs.doubles.HeldRecorder.TheSendSync as recorder
use Rattle.spf_fixtures.proofs.doubles.AgentConnector.TheSendSync as connector
use Rattle.spf_fixtures.proofs.doubles.AgentLink.TheSendSync as link

module _ (T : RattleType) (w : Ghosts T.Denot) (s : IsSend T) where
  board_send : IsSend (BoardPublisher.the_row T w)
  board_send = search (sendable, board.the_send, s)

  pub feeder_send : IsSend (SessionFeeder.the_field AgentConnector.the_row
      (X509Session.the_row (BoardPublisher.the_row T w) HeldRecorder.the_row NoPicker.the_row
      (publishes.ghosts T w publishes.no_dict publishes.no_dict) records.ghosts picks.ghosts)
      AgentLink.the_row (X509Rules.the_row NoPicker.the_row) (BoardPublisher.the_row T w)
      ContextResponse.the_row Step.the_row MetricsRecord.the_row connects.ghosts links.ghosts
      (sessions.ghosts (BoardPublisher.the_row T w) HeldRecorder.the_row NoPicker.the_row
      (publishes.ghosts T w publishes.no_dict publishes.no_dict) sessions.no_dict records.ghosts
      sessions.no_dict picks.ghosts sessions.no_dict sessions.no_dict sessions.no_dict
      sessions.no_dict)
      (governs.ghosts NoPicker.the_row picks.ghosts governs.no_dict governs.no_dict)).row
  feeder_send =
      search (
        sendable,
        crosses,
        session.the_send,
        board_send,
        recorder.the_send,
        picker.the_send,
        connector.the_send,
        link.the_send,
      ) depth 40
