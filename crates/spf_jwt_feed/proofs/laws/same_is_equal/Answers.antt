use Rattle.std.proofs.Common.{◌≡◌, true, subst}
use Rattle.spf_jwt.specs.Bundle.{set_eq}
use Rattle.spf_jwt.specs.Laws.{set_equiv}
use Rattle.spf_jwt_feed.specs.Steps.{BundleSet}
use Rattle.spf_jwt_feed.proofs.ShownLemmas.{sets_same}
use Rattle.spf_jwt_feed.proofs.laws.same_is_equal.Goals as goal

pub returns : goal.returns
returns c = λ a b. (
  sets_same a b,
  λ same. subst (λ (x : BundleSet). set_eq a x ≡ true) same (set_equiv.refl a),
)
