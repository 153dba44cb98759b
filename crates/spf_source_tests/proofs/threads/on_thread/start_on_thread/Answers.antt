use denote.Exit.{no}
use denote.Param.Send.{arg_send, param_send, sendable}
use Rattle.std.proofs.Crossing.{crosses}
use Rattle.spf_system.specs.contracts.step_words.StepWords as StepWords
use Rattle.spf_system.specs.contracts.step_words.StepWordsRng.TheImpl as draws
use Rattle.spf_system.proofs.pace.Pace.TheSendSync as pace
use Rattle.spf_system.proofs.bell.Bell.TheSendSync as bell
use Rattle.spf_system.proofs.cell.Closer.TheSendSync as closer
use Rattle.spf_system.proofs.cell.Watch.TheSendSync as watch
use Rattle.spf_system.proofs.step_words.StepWords.TheSendSync as words
use Rattle.spf_api.specs.contracts.response.ContextResponse as ContextResponse
use Rattle.spf_feed.specs.contracts.prepared.Prepared as Prepared
use Rattle.spf_feed.specs.contracts.record.MetricsRecord as MetricsRecord
use Rattle.spf_feed.specs.contracts.snapshot.Snapshot as Snapshot
use Rattle.spf_feed.specs.contracts.state.X509SourceError as X509SourceError
use Rattle.spf_feed.specs.contracts.state.X509SourceState as X509SourceState
use Rattle.spf_feed.specs.contracts.step.Step as Step
use Rattle.spf_feeder.specs.contracts.x509_rules.X509Rules as X509Rules
use Rattle.spf_feeder.specs.contracts.x509_rules.X509RulesGoverns.TheImpl as governs
use Rattle.spf_feeder.specs.contracts.x509_session.X509Session as X509Session
use Rattle.spf_feeder.specs.contracts.x509_session.X509SessionSession.TheImpl as sessions
use Rattle.spf_board.specs.contracts.desk.Ended as Ended
use Rattle.spiffe.specs.contracts.desk.DeskWriter as DeskWriter
use Rattle.spiffe.specs.contracts.desk.DeskWriterWritesX509.TheImpl as writes
use Rattle.spiffe.specs.contracts.kind.X509 as X509
use Rattle.spiffe.specs.contracts.kind.X509Kind.TheImpl as kinds
use Rattle.spiffe.specs.contracts.kind.X509Replay.TheImpl as replays
use Rattle.spiffe.specs.contracts.kind.X509Shows.TheImpl as shows
use Rattle.spiffe.specs.contracts.publishing.BoardPublisher as BoardPublisher
use Rattle.spiffe.specs.contracts.publishing.BoardPublisherFinishesX509X509SessionBoardPublisher.TheImpl as finishes
use Rattle.spiffe.specs.contracts.publishing.BoardPublisherPublisher.TheImpl as publishes
use Rattle.spf_fixtures.specs.contracts.doubles.HeldRecorder as HeldRecorder
use Rattle.spf_fixtures.specs.contracts.doubles.HeldRecorderMetricsRecorder.TheImpl as records
use Rattle.spf_feed.specs.contracts.picker.NoPicker as NoPicker
use Rattle.spf_feed.specs.contracts.picker.NoPickerSvidPicker.TheImpl as picks
use Rattle.spf_fixtures.specs.contracts.doubles.AgentConnector as AgentConnector
use Rattle.spf_fixtures.specs.contracts.doubles.AgentConnectorConnector.TheImpl as connects
use Rattle.spf_fixtures.specs.contracts.doubles.AgentLink as AgentLink
use Rattle.spf_fixtures.specs.contracts.doubles.AgentLinkLink.TheImpl as links
use Rattle.spf_fixtures.specs.contracts.doubles.ShortPause as ShortPause
use Rattle.spf_fixtures.specs.contracts.doubles.ShortPausePause.TheImpl as pauses
use Rattle.spf_fixtures.proofs.doubles.ShortPause.TheSendSync as pause
use Rattle.spf_source_tests.proofs.Sent.{feeder_send}
use Rattle.spf_feeder.proofs.Sending.{capture_send, job_send, row_of}
use Rattle.spf_source_tests.proofs.threads.on_thread.start_on_thread.Goals as goal

pub spawn_with-requires-send-F : goal.spawn_with-requires-send-F
spawn_with-requires-send-F g c κs within =
    let runtime = c.type_bounds.send-R in
    let T = row_of runtime in
    let w = g.R.Wait in
    let publisher = BoardPublisher.the_row T w in
    let published = publishes.ghosts T w publishes.no_dict publishes.no_dict in
    let session = X509Session.the_row publisher HeldRecorder.the_row NoPicker.the_row published
    records.ghosts picks.ghosts in
    param_send _ _ (arg_send _ no _
    (capture_send _ _ (job_send AgentConnector.the_row X509.the_row session
    ShortPause.the_row StepWords.the_row T AgentLink.the_row
    X509SourceState.the_row X509SourceState.the_row X509SourceError.the_row Snapshot.the_row
    Prepared.the_row (X509Rules.the_row NoPicker.the_row) publisher ContextResponse.the_row
    Step.the_row MetricsRecord.the_row
    (Ended.the_row X509.the_row (DeskWriter.the_row T) X509SourceState.the_row
    X509SourceState.the_row X509SourceError.the_row Snapshot.the_row Prepared.the_row
    shows.ghosts replays.ghosts kinds.ghosts (writes.ghosts T w writes.no_dict writes.no_dict))
    connects.ghosts links.ghosts shows.ghosts replays.ghosts kinds.ghosts
    (sessions.ghosts publisher HeldRecorder.the_row NoPicker.the_row published sessions.no_dict
    records.ghosts sessions.no_dict picks.ghosts sessions.no_dict sessions.no_dict
    sessions.no_dict sessions.no_dict)
    (governs.ghosts NoPicker.the_row picks.ghosts governs.no_dict governs.no_dict)
    (finishes.ghosts T HeldRecorder.the_row NoPicker.the_row w finishes.no_dict records.ghosts
    finishes.no_dict picks.ghosts finishes.no_dict finishes.no_dict finishes.no_dict
    finishes.no_dict)
    pauses.ghosts draws.ghosts (
      feeder_send T w runtime,
      (
        search (sendable, pace.the_field_send),
        (
          search (sendable, pause.the_send),
          (
            search (sendable, words.the_send),
            (
              search (sendable, watch.the_send),
              (
                search (sendable, closer.the_send),
                (
                  search (sendable, bell.the_field_send),
                  (
                    runtime,
                    (
                      search (sendable, crosses),
                      tt,
                    ),
                  ),
                ),
              ),
            ),
          ),
        ),
      ),
    ))))
