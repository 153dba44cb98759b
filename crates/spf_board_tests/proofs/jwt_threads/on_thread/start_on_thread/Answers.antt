use denote.Exit.{no}
use denote.Param.Send.{arg_send, param_send, sendable}
use denote.Struct.Field.{unit-field}
use Rattle.std.proofs.Crossing.{crosses}
use Rattle.spf_system.specs.contracts.step_words.StepWords as StepWords
use Rattle.spf_system.specs.contracts.step_words.StepWordsRng.TheImpl as draws
use Rattle.spf_system.proofs.pace.Pace.TheSendSync as pace
use Rattle.spf_system.proofs.bell.Bell.TheSendSync as bell
use Rattle.spf_system.proofs.cell.Closer.TheSendSync as closer
use Rattle.spf_system.proofs.cell.Watch.TheSendSync as watch
use Rattle.spf_system.proofs.step_words.StepWords.TheSendSync as words
use Rattle.spf_api.specs.contracts.response.BundlesResponse as BundlesResponse
use Rattle.spf_feed.specs.contracts.record.NoRecorder as NoRecorder
use Rattle.spf_jwt_feed.specs.contracts.record.JwtMetricsRecord as JwtMetricsRecord
use Rattle.spf_jwt_feed.specs.contracts.record.NoRecorderJwtMetricsRecorder.TheImpl as records
use Rattle.spf_jwt_feed.specs.contracts.state.JwtSourceError as JwtSourceError
use Rattle.spf_jwt_feed.specs.contracts.state.JwtSourceState as JwtSourceState
use Rattle.spf_jwt_feed.specs.contracts.step.JwtStep as JwtStep
use Rattle.spf_jwt_source.specs.contracts.rules.JwtRules as JwtRules
use Rattle.spf_jwt_source.specs.contracts.rules.JwtRulesGoverns.TheImpl as governs
use Rattle.spf_jwt_source.specs.contracts.session.JwtSession as JwtSession
use Rattle.spf_jwt_source.specs.contracts.session.JwtSessionSession.TheImpl as sessions
use Rattle.spf_board.specs.contracts.desk.Ended as Ended
use Rattle.spf_jwt_source.specs.contracts.desk.DeskWriter as DeskWriter
use Rattle.spf_jwt_source.specs.contracts.desk.DeskWriterWritesJwt.TheImpl as writes
use Rattle.spf_jwt_source.specs.contracts.kind.Jwt as Jwt
use Rattle.spf_jwt_source.specs.contracts.kind.JwtKind.TheImpl as kinds
use Rattle.spf_jwt_source.specs.contracts.kind.JwtReplay.TheImpl as replays
use Rattle.spf_jwt_source.specs.contracts.kind.JwtShows.TheImpl as shows
use Rattle.spf_jwt_source.specs.contracts.shared_step.SharedStep as SharedStep
use Rattle.spf_jwt_source.specs.contracts.shown.Shown as Shown
use Rattle.spf_jwt_source.specs.contracts.publishing.BoardPublisher as BoardPublisher
use Rattle.spf_jwt_source.specs.contracts.publishing.BoardPublisherFinishesJwtJwtSessionBoardPublisher.TheImpl as finishes
use Rattle.spf_jwt_source.specs.contracts.publishing.BoardPublisherJwtPublisher.TheImpl as publishes
use Rattle.spf_fixtures.specs.contracts.doubles.AgentConnector as AgentConnector
use Rattle.spf_fixtures.specs.contracts.doubles.AgentConnectorConnector.TheImpl as connects
use Rattle.spf_fixtures.specs.contracts.doubles.AgentLink as AgentLink
use Rattle.spf_fixtures.specs.contracts.doubles.AgentLinkLink.TheImpl as links
use Rattle.spf_fixtures.specs.contracts.doubles.ShortPause as ShortPause
use Rattle.spf_fixtures.specs.contracts.doubles.ShortPausePause.TheImpl as pauses
use Rattle.spf_fixtures.proofs.doubles.ShortPause.TheSendSync as pause
use Rattle.spf_board_tests.proofs.Sent.{feeder_send}
use Rattle.spf_feeder.proofs.Sending.{capture_send, job_send, row_of}
use Rattle.spf_board_tests.proofs.jwt_threads.on_thread.start_on_thread.Goals as goal

pub spawn_with-requires-send-F : goal.spawn_with-requires-send-F
spawn_with-requires-send-F g c κs within =
    let runtime = c.type_bounds.send-R in
    let T = row_of runtime in
    let w = g.R.Wait in
    let publisher = BoardPublisher.the_row T w in
    let published = publishes.ghosts T w publishes.no_dict publishes.no_dict in
    let session = JwtSession.the_row publisher NoRecorder.the_row published records.ghosts in
    param_send _ _ (arg_send _ no _
    (capture_send _ _ (job_send AgentConnector.the_row Jwt.the_row session
    ShortPause.the_row StepWords.the_row T AgentLink.the_row
    JwtSourceState.the_row unit-field.row JwtSourceError.the_row Shown.the_row
    SharedStep.the_row JwtRules.the_row publisher BundlesResponse.the_row
    JwtStep.the_row JwtMetricsRecord.the_row
    (Ended.the_row Jwt.the_row (DeskWriter.the_row T) JwtSourceState.the_row unit-field.row
    JwtSourceError.the_row Shown.the_row SharedStep.the_row
    shows.ghosts replays.ghosts kinds.ghosts (writes.ghosts T w writes.no_dict writes.no_dict))
    connects.ghosts links.ghosts shows.ghosts replays.ghosts kinds.ghosts
    (sessions.ghosts publisher NoRecorder.the_row published sessions.no_dict
    records.ghosts sessions.no_dict sessions.no_dict sessions.no_dict)
    governs.ghosts
    (finishes.ghosts T NoRecorder.the_row w finishes.no_dict records.ghosts
    finishes.no_dict finishes.no_dict finishes.no_dict)
    pauses.ghosts draws.ghosts (
      feeder_send T w runtime,
      (
        search (sendable, pace.the_field_send),
        (
          search (sendable, pause.the_send),
          (
            search (sendable, words.the_send),
            (
              search (sendable, watch.the_send),
              (
                search (sendable, closer.the_send),
                (
                  search (sendable, bell.the_field_send),
                  (
                    runtime,
                    (
                      search (sendable, crosses),
                      tt,
                    ),
                  ),
                ),
              ),
            ),
          ),
        ),
      ),
    ))))
