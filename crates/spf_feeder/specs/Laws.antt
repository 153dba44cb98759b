-- What holds of X.509 sessions.
use Rattle.std.proofs.Common.{◌≡◌, true, refl}
use Rattle.std.specs.Prelude.{◌&&◌, is_some}
use Rattle.spf_view.specs.Views.{has_synced}
use Rattle.spf_api.specs.Payload.{kind_of}
use Rattle.spf_api.specs.declared.response.Response.{Response}
use Rattle.spf_api.specs.declared.response.Response.TheVariants as response
use Rattle.spf_feed.specs.Items.{Rules, context_in, subject}
use Rattle.spf_feeder.specs.Asking.{contexts, context_of, kind_wanted}
use Rattle.spf_feeder.specs.Kinds.{IsLawful, x509}

holds : (r : Response) → kind_of r ≡ kind_wanted contexts → is_some (context_of r) ≡ true
holds (response.Context r) h = refl
holds (response.Bundles r) h = absurd cc
holds (response.JwtSvids r) h = absurd cc
holds (response.JwtBundles r) h = absurd cc
holds (response.Validation r) h = absurd cc

pub lawful : (rules : Rules) → IsLawful (x509 rules)
lawful rules = record {
  follows = record {
    keeps = λ past i. has_synced (subject rules) past && is_some (context_in i);
    made = λ past. refl;
    failed = λ past f. refl;
    connected = λ past. refl;
    refused = λ past s. refl;
    item = λ past i. refl;
    broken = λ past s. refl;
    ended = λ past. refl;
    moment = λ past m. refl;
  };
  unread = λ m. refl;
  holds = holds;
}
