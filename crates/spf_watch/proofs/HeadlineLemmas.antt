-- From what following a session says to the headline.
use Rattle.std.proofs.Common.{◌≡◌, ap, ◌∙◌, refl, ℕ, Bool, true, false, List, [], ◌∷◌, ◌++◌, length}
use Rattle.std.proofs.Common.{take, Option, None, Some, is_some, Result, Ok, Err, inl, inr, arith}
use Rattle.std.proofs.Common.{subst, sym, take_all}
use Rattle.std.proofs.KnownBytes.{Appends-nil}
use Rattle.std.specs.Prelude.{if◌then◌else◌, IfSome, IsOk}
use Rattle.std.specs.Borrow.{Bor}
use Rattle.std.specs.Option.{option_map}
use Rattle.spf_view.specs.Sessions.{Stream, Outputs, End, Whole, end_by, IsEndOf, refusal_of}
use Rattle.spf_view.specs.Sessions.{all_of, Grows, GrowsUpTo, Followed}
use Rattle.spf_feed.specs.declared.turn.Terminal.{Terminal}
use Rattle.spf_feed.specs.Items.{Rules}
use Rattle.spf_feed.specs.Run.{stream, outputs, end_for}
use Rattle.spf_watch.specs.Setting.{Setting}
use Rattle.spf_program.specs.Reports.{IsReported}
use Rattle.spf_program.specs.Streams.{Side, Streams}
use Rattle.spf_view.proofs.FollowLemmas.{followed_early}
use Rattle.spf_feed.specs.declared.follow_error.FollowError.{FollowError}
use Rattle.spf_feed.specs.declared.follow_error.FollowError.TheVariants as errors
use Rattle.spf_watch.specs.declared.exit_reason.ExitReason.{ExitReason}
use Rattle.spf_watch.specs.declared.arguments.Command.{Command}
use Rattle.spf_watch.specs.declared.arguments.Command.TheVariants as commands
use Rattle.spf_watch.specs.Headline.{Session, rules_for, x509_session, jwt_session, ports}
use Rattle.spf_watch.specs.Headline.{FollowedBy, lines_of, PrintsSession, FollowsSession, Does}
use Rattle.spf_watch.specs.Headline.{Ended, Headline, ended_by}

-- a run that went well is not reported
pub unreported : (command : Option Command) (before after : Streams)
    (r : Result (Unit {0}) ExitReason) (u : Unit {0}) → r ≡ Ok u → after.errors ≡ before.errors
    → Does command before after r → Ended command before after 0
unreported command before after r u is same does = record {
  end = Ok u;
  does = subst (λ (x : Result (Unit {0}) ExitReason). Does command before after x) is does;
  status = refl;
  line = subst (λ (s : Side). IsReported before.errors s []) (sym same) (record {
    put = Ok tt;
    appends = Appends-nil before.errors.bytes;
    cause = record { later = omega arith; failed = λ err. cc };
  });
}

-- a whole session is the end of a reading without a
-- refusal, that is whole and has an accepted event
pub record IsWhole {A : Type 0} (x : Option A) (whole synced : Bool) : Type 0 where
  pub calm : x ≡ None
  pub whole_is : whole ≡ true
  pub synced_is : synced ≡ true

whole_by : {A : Type 0} (x : Option A) (whole synced full : Bool) (n m : ℕ)
    → Whole m ≡ end_by
    (record { refusal = x; whole = whole; synced = synced; full = full; count = n })
    → IsWhole x whole synced
whole_by (Some x) whole synced full n m h = absurd cc
whole_by None true true full n m h = record { calm = refl; whole_is = refl; synced_is = refl }
whole_by None true false full n m h = absurd cc
whole_by None false synced true n m h = absurd cc
whole_by None false synced false n m h = absurd cc

unrefused : {A : Type 0} (o r : Option A) → (if is_some o then o else r) ≡ None
    → (is_some o ≡ false) × (r ≡ None)
unrefused None r h = (refl, h)
unrefused (Some x) r h = absurd cc

-- without a refusal each event has its line
lines_all : {E X Y : Type 0} (s : Stream E Terminal) (o : Outputs E X Y) (past es : List E)
    → refusal_of s past es ≡ None → all_of s o.line past es ≡ lines_of o past es
unfolding all_of refusal_of
lines_all s o past [] h = refl
lines_all s o past (e ∷ es) h =
    let u = unrefused (s.refusal past e) (refusal_of s (e ∷ past) es) h in
    rw u.0 (ap (λ (more : List ℕ). o.line past e ++ more) (lines_all s o (e ∷ past) es u.1))

grows_whole : (old new : Option (List ℕ)) (more : List ℕ) → GrowsUpTo old new more false
    → Grows old new more
grows_whole old new more g = let whole : take g.count more ≡ more =
    take_all g.count more (omega (arith, g.all refl)) in subst (Grows old new) whole g.grows

-- what an end counts
abbrev count_of : {A : Type 0} → End A → ℕ
count_of (Whole n) = n
count_of end = 0

counted_by : {A : Type 0} (x : Option A) (whole synced full : Bool) (n m : ℕ)
    → Whole m ≡ end_by
    (record { refusal = x; whole = whole; synced = synced; full = full; count = n }) → m ≡ n
counted_by (Some x) whole synced full n m h = absurd cc
counted_by None true true full n m h = ap count_of h
counted_by None true false full n m h = absurd cc
counted_by None false synced true n m h = absurd cc
counted_by None false synced false n m h = absurd cc

-- an answer that is Ok shows a whole session, and counts its events
pub counted : {E X Y : Type 0} (s : Session E X Y) (bytes : List ℕ)
    (left' held held' : Option (List ℕ)) (count : ℕ)
    → FollowedBy s (Some bytes) left' held held' (Ok count)
    → (p : PrintsSession s bytes held held') × (count ≡ length p.session.es)
counted s bytes left' held held' count f =
    elim f.end [ inl free ↦ absurd cc | inr ended ↦ by_end ended ]
  where
    by_end : IsEndOf s.stream s.max_frames bytes f.es (Whole count)
        → (p : PrintsSession s bytes held held') × (count ≡ length p.session.es)
    by_end ended =
        let w = whole_by _ _ _ _ (length f.es) count ended.is in (
          record {
            session = record {
              es = f.es;
              rest = ended.rest;
              reading = ended.reading;
              accepted = w.synced_is;
              calm = w.calm;
              whole = w.whole_is;
            };
            lines = subst (Grows held held') (lines_all s.stream s.outputs [] f.es w.calm)
                (grows_whole held held' (all_of s.stream s.outputs.line [] f.es) f.lines);
          },
          counted_by _ _ _ _ (length f.es) count ended.is,
        )

pub shows : {E X Y : Type 0} (s : Session E X Y) (bytes : List ℕ)
    (left' held held' : Option (List ℕ)) (count : ℕ)
    → FollowedBy s (Some bytes) left' held held' (Ok count)
    → PrintsSession s bytes held held'
shows s bytes left' held held' count f = (counted s bytes left' held held' count f).0

-- how following ended, and the rules of its picker
pub ran : (setting : Setting) (left left' held held' : Option (List ℕ))
    (answer : Result ℕ FollowError) (r : Result (Unit {0}) ExitReason) (rules : Rules)
    → rules ≡ rules_for setting
    → Followed (stream rules) (outputs rules) setting.max_frames (ports left held)
    (ports left' held') (end_for answer) → r ≡ ended_by answer
    → FollowsSession (x509_session setting) left left' held held' r
ran setting left left' held held' answer r rules same f is = record {
  answer = answer;
  followed = subst
      (λ x. Followed (stream x) (outputs x) setting.max_frames (ports left held) (ports left' held')
      (end_for answer)) same f;
  is = is;
}

-- memory ran out before anything was read
pub ran_early : {E X Y : Type 0} (s : Session E X Y) (left held : Option (List ℕ))
    (r : Result (Unit {0}) ExitReason)
    → r ≡ ended_by (Err errors.OutOfMemory) → FollowsSession s left left held held r
ran_early s left held r is =
    record {
      answer = Err errors.OutOfMemory;
      followed = followed_early s.stream s.outputs s.max_frames (ports left held);
      is = is;
    }

-- status 0 is an answer that is Ok
pub ended_well : (answer : Result ℕ FollowError) (end : Result (Unit {0}) ExitReason)
    → end ≡ ended_by answer → end ≡ Ok tt → IsOk answer
ended_well (Ok count) end is well = refl
ended_well (Err e) end is well = absurd cc

ran_well : {E X Y : Type 0} (s : Session E X Y) (bytes : List ℕ)
    (left' held held' : Option (List ℕ)) (answer : Result ℕ FollowError)
    → FollowedBy s (Some bytes) left' held held' answer
    → IsOk answer → PrintsSession s bytes held held'
ran_well s bytes left' held held' (Ok count) f ok = shows s bytes left' held held' count f
ran_well s bytes left' held held' (Err e) f ok = absurd cc

printed : {E X Y : Type 0} (s : Session E X Y) (bytes left' held held' : Option (List ℕ))
    (end : Result (Unit {0}) ExitReason) → FollowsSession s bytes left' held held' end
    → end ≡ Ok tt → IfSome bytes (λ bytes. PrintsSession s bytes held held')
printed s None left' held held' end ran well = tt
printed s (Some bytes) left' held held' end ran well =
    ran_well s bytes left' held held' ran.answer ran.followed
    (ended_well ran.answer end ran.is well)

pub headline : (command : Option Command) (before after : Streams)
    (end : Result (Unit {0}) ExitReason) → Does command before after end → end ≡ Ok tt
    → Headline command before after
headline (Some (commands.X509 setting)) before after end does well =
    printed (x509_session setting) before.input.bytes after.input.bytes before.output.bytes
    after.output.bytes end does well
headline (Some (commands.Jwt setting)) before after end does well =
    printed (jwt_session setting) before.input.bytes after.input.bytes before.output.bytes
    after.output.bytes end does well
headline (Some (commands.Make arguments)) before after end does well = tt
headline (Some (commands.Bench arguments)) before after end does well = tt
headline None before after end does well = tt

-- a function of what a shared optional value holds
pub shared_map : {A B : Type 0} (f : A → B) (r : Option (Bor A)) (p : Option A)
    → option_map (λ x. x.now) r ≡ p → option_map (λ x. f x.now) r ≡ option_map f p
shared_map {A} {B} f r p same = through r ∙ ap (option_map f) same
  where
    through : (o : Option (Bor A))
        → option_map (λ x. f x.now) o ≡ option_map f (option_map (λ x. x.now) o)
    through None = refl
    through (Some x) = refl
