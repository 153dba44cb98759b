-- A setting by its options.
use Rattle.std.proofs.Common.{◌≡◌, refl, ℕ, true, List, Option, None, Some}
use Rattle.std.specs.Prelude.{ℤ, codes}
use Rattle.spf_feed.specs.declared.ready.Ready.{Ready}
use Rattle.spf_feed.specs.declared.ready.Ready.TheVariants as readiness
use Rattle.spf_watch.specs.Setting.{default_setting, default_jwt_setting}
use Rattle.spf_program.specs.Numbers.{number_in}
use Rattle.spf_program.specs.Pairs.{are_pairs, is_one_of, option_in}
use Rattle.spf_program.specs.Values.{limit_in, optional_moment_in, ready_in, text_in}
use Rattle.spf_watch.specs.Arguments.{option_names, not_there, jwt_setting, x509_setting}

pub setting_read : (arguments : List (List ℕ)) (a b c d : Option ℕ) (e : Option ℤ) (f : ℕ)
    (g : Option (List ℕ)) (h : Ready)
    → are_pairs (is_one_of option_names) arguments ≡ true
    → Some a ≡ option_in limit_in default_setting.limits.max_svids (codes "--max-svids") arguments
    → Some b ≡ option_in limit_in default_setting.limits.max_bundles (codes "--max-bundles")
    arguments
    → Some c ≡ option_in limit_in default_setting.limits.max_bundle_der_bytes
    (codes "--max-bundle-bytes") arguments
    → Some d ≡ option_in limit_in default_setting.limits.max_crl_bytes (codes "--max-crl-bytes")
    arguments
    → Some e ≡ option_in optional_moment_in None (codes "--deadline")
    arguments
    → Some f ≡ option_in number_in 1000000 (codes "--max-frames") arguments
    → Some g ≡ option_in text_in None (codes "--hint") arguments
    → Some h ≡ option_in ready_in readiness.Usable (codes "--ready") arguments
    → Some (record {
      limits = record {
        max_svids = a;
        max_bundles = b;
        max_bundle_der_bytes = c;
        max_crl_bytes = d;
      };
      deadline = e;
      max_frames = f;
      hint = g;
      ready = h;
    }) ≡ x509_setting arguments
unfolding x509_setting
setting_read arguments a b c d e f g h p q r s t u v w x =
    rw (p, ← q, ← r, ← s, ← t, ← u, ← v, ← w, ← x) refl

pub jwt_setting_read : (arguments : List (List ℕ)) (b c : Option ℕ) (e : Option ℤ) (f : ℕ)
    → are_pairs (is_one_of option_names) arguments ≡ true
    → Some tt ≡ option_in not_there tt (codes "--max-svids") arguments
    → Some tt ≡ option_in not_there tt (codes "--max-crl-bytes") arguments
    → Some tt ≡ option_in not_there tt (codes "--hint") arguments
    → Some tt ≡ option_in not_there tt (codes "--ready") arguments
    → Some b ≡ option_in limit_in default_jwt_setting.limits.max_bundles (codes "--max-bundles")
    arguments
    → Some c ≡ option_in limit_in default_jwt_setting.limits.max_bundle_jwks_bytes
    (codes "--max-bundle-bytes") arguments
    → Some e ≡ option_in optional_moment_in None (codes "--deadline")
    arguments
    → Some f ≡ option_in number_in 1000000 (codes "--max-frames") arguments
    → Some (record {
      limits = record { max_bundles = b; max_bundle_jwks_bytes = c };
      deadline = e;
      max_frames = f;
    }) ≡ jwt_setting arguments
unfolding jwt_setting
jwt_setting_read arguments b c e f p k l m n q r s t =
    rw (p, ← k, ← l, ← m, ← n, ← q, ← r, ← s, ← t) refl
