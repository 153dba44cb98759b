-- What following the frames of a body gives.
use Rattle.std.proofs.Common.{◌≡◌, ◌∙◌, ℕ, Bool, true, false, cond, List, [], ◌++◌, length, Option}
use Rattle.std.proofs.Common.{Some, None, Result, Ok, Err, inl, inr, refl, sym, ap, subst, arith}
use Rattle.std.proofs.Common.{take_all}
use Rattle.std.specs.Prelude.{◌⊎◌, ◌&&◌, ◌==◌, IsTrue, IfSome}
use Rattle.std.specs.Io.KnownBytes.{Consumes}
use Rattle.std.proofs.lemmas.List.{append-nil}
use Rattle.spf_view.specs.Sessions.{IsReading, onto, End, Whole, NeverSynced, ReadFault, end_of}
use Rattle.spf_view.specs.Sessions.{IsEndOf, all_of, Ports, Grows, GrowsUpTo, cuts_line, cuts_steps}
use Rattle.spf_view.specs.Sessions.{Followed}
use Rattle.spf_view.specs.Views.{has_synced}
use Rattle.spf_view.proofs.SessionLemmas.{IsOpen, reading_same, refusal_of-open, end_at_end}
use Rattle.spf_feed.specs.declared.follow_error.FollowError.{FollowError}
use Rattle.spf_feed.specs.declared.follow_error.FollowError.TheVariants as follow_errors
use Rattle.spf_feed.specs.declared.record.MetricsRecord.{MetricsRecord}
use Rattle.spf_feed.specs.declared.turn.Terminal.{Terminal}
use Rattle.spf_feed.specs.Items.{Event, Rules, subject}
use Rattle.spf_feed.specs.Run.{stream, outputs, end_for}
use Rattle.spf_feed.specs.Steps.{PlainStep}
use Rattle.spf_proto.specs.declared.frame_end.FrameEnd.{FrameEnd}
use Rattle.spf_proto.specs.declared.frame_end.FrameEnd.TheVariants as ends
use Rattle.spf_proto.specs.FrameEnds.{end_by}
use Rattle.spf_proto.specs.Following.{OutputState, HandsOnAll}

grown : {X : Type 0} (old new : Option (List X)) (more : List X) (cut : Bool) → cut ≡ false
    → GrowsUpTo old new more cut → Grows old new more
grown {X} old new more cut off g =
    let all = g.all off in
    subst (λ (l : List X). Grows old new l) (take_all g.count more (omega (arith, all))) g.grows

-- what is held, without what is read
abbrev pub held : Ports PlainStep MetricsRecord → OutputState
held p = record { held = p.held; steps = p.steps; records = p.records }

abbrev pub Given : Rules → List Event → Ports PlainStep MetricsRecord
    → Ports PlainStep MetricsRecord
    → Type 0
Given rules es old new = HandsOnAll rules es (held old) (held new)

given : (rules : Rules) (max : ℕ) (old new : Ports PlainStep MetricsRecord) (r : End Terminal)
    (es : List Event) (f : Followed (stream rules) (outputs rules) max old new r) → f.es ≡ es
    → cuts_line r ≡ false → cuts_steps r ≡ false → Given rules es old new
given rules max old new r es f same line steps = record {
  lines = subst (λ (l : List Event).
      Grows old.held new.held (all_of (stream rules) (outputs rules).line [] l)) same
      (grown old.held new.held _ _ (ap (λ (b : Bool). b && length f.extra == 0) line) f.lines);
  steps = subst (λ (l : List Event).
      Grows old.steps new.steps (all_of (stream rules) (outputs rules).steps [] l)) same
      (grown old.steps new.steps _ _ (ap (λ (b : Bool). b && length f.extra == 0) steps) f.steps);
  records = subst (λ (l : List Event).
      Grows old.records new.records (all_of (stream rules) (outputs rules).records [] l)) same
      (grown old.records new.records _ _ (ap (λ (b : Bool). b && length f.extra == 0) steps)
      f.records);
}

abbrev pub IsKnown : Option (List ℕ) → Type 0
IsKnown left = (bytes : List ℕ) × (left ≡ Some bytes)

-- what following the frames of a session gives, by its end
abbrev pub IsGiven : Rules → List Event → Ports PlainStep MetricsRecord
    → Ports PlainStep MetricsRecord → FrameEnd → Type 0
IsGiven rules es old new (ends.Whole n) =
    (n ≡ length es) × (has_synced (subject rules) (onto [] es) ≡ true) × (new.left ≡ Some [])
    × Given rules es old new
IsGiven rules es old new ends.NeverSynced =
    (has_synced (subject rules) (onto [] es) ≡ false) × (new.left ≡ Some [])
    × Given rules es old new
IsGiven rules es old new ends.ReadFault =
    IsKnown new.left × (new.left ≡ Some [] → Given rules es old new)
IsGiven rules es old new _ = Unit {0}

pub known : (bytes given : List ℕ) (left : Option (List ℕ)) → Consumes (Some bytes) left given
    → IsKnown left
known bytes given None taken = absurd taken
known bytes given (Some x) taken = (x, refl)

pub rest_is : (bytes given rest : List ℕ) (left : Option (List ℕ))
    → Consumes (Some bytes) left given
    → left ≡ Some rest → bytes ≡ given ++ rest
rest_is bytes given rest left taken is =
    subst (λ (l : Option (List ℕ)). Consumes (Some bytes) l given) is taken

-- the frames of a whole session are all read
all_read : (rules : Rules) (max : ℕ) (bytes rest : List ℕ) (es : List Event)
    (old new : Ports PlainStep MetricsRecord) (r : End Terminal)
    (f : Followed (stream rules) (outputs rules) max old new r)
    → IsReading (stream rules) max bytes es [] → IsEndOf (stream rules) max bytes f.es r
    → old.left ≡ Some bytes → f.extra ≡ []
    → (f.es ≡ es) × (new.left ≡ Some [])
all_read rules max bytes rest es old new r f reading e left none =
    let s = stream rules in
    let same = reading_same s max bytes f.es es e.rest [] e.reading reading in
    let taken : Consumes (Some bytes) new.left (f.text ++ f.extra) =
    subst (λ (l : Option (List ℕ)). Consumes l new.left (f.text ++ f.extra)) left f.taken in
    let is = known bytes (f.text ++ f.extra) new.left taken in
    let whole : bytes ≡ f.text ++ is.0 =
    rest_is bytes (f.text ++ f.extra) is.0 new.left taken is.1
    ∙ ap (λ (l : List ℕ). (f.text ++ l) ++ is.0) none
    ∙ ap (λ (l : List ℕ). l ++ is.0) (append-nil f.text) in
    let again : IsReading s max bytes f.es is.0 = record {
      reads = record { text = f.text; bytes_are = whole; session = f.session; bound = f.bound };
      longest = e.reading.longest;
    } in
    let end = reading_same s max bytes f.es es is.0 [] again reading in
    (same.0, is.1 ∙ ap Some end.1)

-- the end of a whole session, by whether something is accepted
abbrev end_with : Bool → ℕ → End Terminal
end_with b n = cond b (Whole n) NeverSynced

end_is : (rules : Rules) (max : ℕ) (bytes : List ℕ) (es : List Event) (b : Bool)
    → IsOpen (stream rules) [] bytes es → has_synced (subject rules) (onto [] es) ≡ b
    → end_of (stream rules) max es [] ≡ end_with b (length es)
end_is rules max bytes es b going synced =
    end_at_end (stream rules) max es b (refusal_of-open (stream rules) [] bytes es going) synced

end_whole : (b : Bool) (n m : ℕ) → Whole n ≡ end_with b m → b ≡ true
end_whole true n m is = refl
end_whole false n m is = absurd cc

end_never : (b : Bool) (m : ℕ) → NeverSynced ≡ end_with b m → b ≡ false
end_never true m is = absurd cc
end_never false m is = refl

pub given_by : (rules : Rules) (max : ℕ) (bytes : List ℕ) (es : List Event)
    (old new : Ports PlainStep MetricsRecord) (followed : Result ℕ FollowError)
    → IsOpen (stream rules) [] bytes es → IsReading (stream rules) max bytes es []
    → old.left ≡ Some bytes
    → Followed (stream rules) (outputs rules) max old new (end_for followed)
    → IsGiven rules es old new (end_by followed)
given_by rules max bytes es old new (Ok n) going reading left f =
    by (subst (λ (l : Option (List ℕ)). IfSome l (λ bytes.
    IsTrue false ⊎ IsEndOf (stream rules) max bytes f.es (Whole n))) left f.end)
  where
    by : IsTrue false ⊎ IsEndOf (stream rules) max bytes f.es (Whole n)
        → IsGiven rules es old new (ends.Whole n)
    by (inl free) = absurd cc
    by (inr e) =
        let read =
        all_read rules max bytes [] es old new (Whole n) f reading e left f.taken_at_end.1 in
        let same = reading_same (stream rules) max bytes f.es es e.rest [] e.reading reading in
        let b = has_synced (subject rules) (onto [] es) in
        let end : Whole n ≡ end_with b (length es) =
        e.is ∙ (λ i. end_of (stream rules) max (same.0 i) (same.1 i))
        ∙ end_is rules max bytes es b going refl in (
          f.taken_at_end.0 ∙ ap length read.0,
          end_whole b n (length es) end,
          read.1,
          given rules max old new (Whole n) es f read.0 refl refl,
        )
given_by rules max bytes es old new (Err follow_errors.NeverSynced) going reading left f =
    by (subst (λ (l : Option (List ℕ)). IfSome l (λ bytes.
    IsTrue false ⊎ IsEndOf (stream rules) max bytes f.es NeverSynced)) left f.end)
  where
    by : IsTrue false ⊎ IsEndOf (stream rules) max bytes f.es NeverSynced
        → IsGiven rules es old new ends.NeverSynced
    by (inl free) = absurd cc
    by (inr e) =
        let read =
        all_read rules max bytes [] es old new NeverSynced f reading e left f.taken_at_end in
        let same = reading_same (stream rules) max bytes f.es es e.rest [] e.reading reading in
        let b = has_synced (subject rules) (onto [] es) in
        let end : NeverSynced ≡ end_with b (length es) =
        e.is ∙ (λ i. end_of (stream rules) max (same.0 i) (same.1 i))
        ∙ end_is rules max bytes es b going refl in (
          end_never b (length es) end,
          read.1,
          given rules max old new NeverSynced es f read.0 refl refl,
        )
given_by rules max bytes es old new (Err follow_errors.ReadFault) going reading left f =
    let s = stream rules in
    let taken : Consumes (Some bytes) new.left (f.text ++ f.extra) =
    subst (λ (l : Option (List ℕ)). Consumes l new.left (f.text ++ f.extra)) left f.taken in (
      known bytes (f.text ++ f.extra) new.left taken,
      λ end.
          let whole : f.text ++ f.extra ≡ bytes =
          sym (append-nil (f.text ++ f.extra))
          ∙ sym (rest_is bytes (f.text ++ f.extra) [] new.left taken end) in
          let handed : IsReading s max bytes f.es f.extra =
          subst (λ (l : List ℕ). IsReading s max l f.es f.extra) whole (f.handed_out refl) in
          let same = reading_same s max bytes f.es es f.extra [] handed reading in
          given rules max old new ReadFault es f same.0 refl refl,
    )
given_by rules max bytes es old new (Err follow_errors.OutOfMemory) going reading left f = tt
given_by rules max bytes es old new (Err follow_errors.WriteFault) going reading left f = tt
given_by rules max bytes es old new (Err follow_errors.SessionTooLong) going reading left f = tt
given_by rules max bytes es old new (Err (follow_errors.BadFrame n)) going reading left f = tt
given_by rules max bytes es old new (Err (follow_errors.Source e)) going reading left f = tt
given_by rules max bytes es old new (Err (follow_errors.UnsupportedRpc e)) going reading left f = tt
given_by rules max bytes es old new (Err follow_errors.InitialSyncTimeout) going reading left f = tt
given_by rules max bytes es old new (Err follow_errors.Closed) going reading left f = tt
