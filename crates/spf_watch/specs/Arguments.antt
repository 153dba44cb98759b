-- What the arguments of the command line mean.
use Rattle.std.specs.Prelude.{ℕ, not, List, [], ◌∷◌, Option, None}
use Rattle.std.specs.Prelude.{Some, if◌then◌else◌, codes}
use Rattle.std.specs.Option.{option_map}
use Rattle.std.specs.Str.{bytes_eq}
use Rattle.spf_io.specs.Option.{◌>>=◌}
use Rattle.spf_program.specs.Numbers.{number_up_to, number_in}
use Rattle.spf_program.specs.Pairs.{are_pairs, is_one_of, option_in}
use Rattle.spf_program.specs.Values.{limit_in, optional_moment_in, ready_in, text_in}
use Rattle.spf_watch.specs.Setting.{Setting, default_setting, default_jwt_setting}
use Rattle.spf_watch.specs.declared.arguments.Command.{Command}
use Rattle.spf_watch.specs.declared.arguments.Command.TheVariants as commands
use Rattle.spf_watch.specs.declared.arguments.JwtArguments.{JwtArguments}
use Rattle.spf_watch.specs.declared.arguments.MakeArguments.{MakeArguments}

-- the names of the options of x509
unfoldable pub option_names : List (List ℕ)
option_names =
    codes "--max-svids" ∷ codes "--max-bundles" ∷ codes "--max-bundle-bytes"
    ∷ codes "--max-crl-bytes" ∷ codes "--deadline" ∷ codes "--max-frames" ∷ codes "--hint"
    ∷ codes "--ready" ∷ []

-- the setting of a session of X.509 updates, each of whose options comes at most once
unfoldable pub x509_setting : List (List ℕ) → Option Setting
x509_setting arguments =
    if not (are_pairs (is_one_of option_names) arguments) then None
    else (option_in limit_in default_setting.limits.max_svids (codes "--max-svids") arguments
    >>= λ max_svids.
    option_in limit_in default_setting.limits.max_bundles (codes "--max-bundles") arguments
    >>= λ max_bundles.
    option_in limit_in default_setting.limits.max_bundle_der_bytes (codes "--max-bundle-bytes")
    arguments
    >>= λ max_bundle_bytes.
    option_in limit_in default_setting.limits.max_crl_bytes (codes "--max-crl-bytes") arguments
    >>= λ max_crl_bytes.
    option_in optional_moment_in default_setting.deadline
    (codes "--deadline") arguments
    >>= λ deadline. option_in number_in default_setting.max_frames (codes "--max-frames") arguments
    >>= λ max_frames.
    option_in text_in default_setting.hint (codes "--hint") arguments
    >>= λ hint. option_in ready_in default_setting.ready (codes "--ready") arguments
    >>= λ ready. Some (record {
      limits = record {
        max_svids = max_svids;
        max_bundles = max_bundles;
        max_bundle_der_bytes = max_bundle_bytes;
        max_crl_bytes = max_crl_bytes;
      };
      deadline = deadline;
      max_frames = max_frames;
      hint = hint;
      ready = ready;
    }))

-- the values that an option of `x509` alone may have elsewhere: none
abbrev pub not_there : List ℕ → Option (Unit {0})
not_there value = None

-- the setting of a session of JWT bundles, each of whose options comes at most once
unfoldable pub jwt_setting : List (List ℕ) → Option JwtArguments
jwt_setting arguments =
    if not (are_pairs (is_one_of option_names) arguments) then None
    else (option_in not_there tt (codes "--max-svids") arguments
    >>= λ _. option_in not_there tt (codes "--max-crl-bytes") arguments
    >>= λ _. option_in not_there tt (codes "--hint") arguments
    >>= λ _. option_in not_there tt (codes "--ready") arguments
    >>= λ _.
    option_in limit_in default_jwt_setting.limits.max_bundles (codes "--max-bundles") arguments
    >>= λ max_bundles.
    option_in limit_in default_jwt_setting.limits.max_bundle_jwks_bytes
    (codes "--max-bundle-bytes") arguments
    >>= λ max_bundle_bytes.
    option_in optional_moment_in default_jwt_setting.deadline
    (codes "--deadline") arguments
    >>= λ deadline.
    option_in number_in default_jwt_setting.max_frames (codes "--max-frames") arguments
    >>= λ max_frames. Some (record {
      limits = record { max_bundles = max_bundles; max_bundle_jwks_bytes = max_bundle_bytes };
      deadline = deadline;
      max_frames = max_frames;
    }))

-- the size and the seed of a generated session
unfoldable pub make_arguments_in : List (List ℕ) → Option MakeArguments
make_arguments_in (operations ∷ seed ∷ []) =
    number_up_to 10000 operations >>= λ operations. number_up_to 65535 seed
    >>= λ seed. Some (record { operations = operations; seed = seed })
make_arguments_in _ = None

-- what the arguments ask for; none where they are not those of the program
unfoldable pub command_in : List (List ℕ) → Option Command
command_in [] = None
command_in (name ∷ arguments) =
    if bytes_eq name (codes "x509") then option_map commands.X509 (x509_setting arguments)
    else (if bytes_eq name (codes "jwt") then option_map commands.Jwt (jwt_setting arguments)
    else (if bytes_eq name (codes "make")
    then option_map commands.Make (make_arguments_in arguments)
    else (if bytes_eq name (codes "bench")
    then option_map commands.Bench (make_arguments_in arguments)
    else None)))
