-- What holds of sessions of JWT bundles.
use Rattle.std.proofs.Common.{◌≡◌, true, refl}
use Rattle.std.specs.Prelude.{◌&&◌, is_some}
use Rattle.spf_view.specs.Views.{has_synced}
use Rattle.spf_api.specs.Payload.{kind_of}
use Rattle.spf_api.specs.declared.response.Response.{Response}
use Rattle.spf_api.specs.declared.response.Response.TheVariants as response
use Rattle.spf_feeder.specs.Asking.{kind_wanted}
use Rattle.spf_feeder.specs.Kinds.{IsLawful}
use Rattle.spf_jwt_feed.specs.Items.{Rules, item_in, keeps_stream, subject}
use Rattle.spf_jwt_source.specs.Asking.{bundles_of, jwt_bundles}
use Rattle.spf_jwt_source.specs.Kinds.{jwt}

holds : (r : Response) → kind_of r ≡ kind_wanted jwt_bundles → is_some (bundles_of r) ≡ true
holds (response.Context r) h = absurd cc
holds (response.Bundles r) h = absurd cc
holds (response.JwtSvids r) h = absurd cc
holds (response.JwtBundles r) h = refl
holds (response.Validation r) h = absurd cc

pub lawful : (rules : Rules) → IsLawful (jwt rules)
lawful rules = record {
  follows = record {
    keeps = λ past i. has_synced (subject rules) past && keeps_stream (item_in i);
    made = λ past. refl;
    failed = λ past f. refl;
    connected = λ past. refl;
    refused = λ past s. refl;
    item = λ past i. refl;
    broken = λ past s. refl;
    ended = λ past. refl;
    moment = λ past m. refl;
  };
  unread = λ m. refl;
  holds = holds;
}
