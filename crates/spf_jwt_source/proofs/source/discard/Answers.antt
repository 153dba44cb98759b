use Rattle.std.proofs.Common.{◌≡◌, subst}
use Rattle.std.specs.Prelude.{◌≢◌, MatchBool}
use Rattle.spf_jwt_feed.specs.declared.state.JwtSourceError.TheVariants as errors
use Rattle.spf_jwt_source.proofs.source.discard.Goals as goal

pub returns : goal.returns
returns c =
    subst (λ b. MatchBool b (c.args.e ≡ errors.OutOfMemory) (c.args.e ≢ errors.OutOfMemory))
    c.if-is_memory.false c.is_out_of_memory-is_memory.ensures
