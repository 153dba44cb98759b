-- The arguments at named texts.
use Rattle.std.proofs.Common.{◌≡◌, refl, [], ◌∷◌, None, Some}
use Rattle.std.specs.Prelude.{codes}
use Rattle.spf_feed.specs.declared.ready.Ready.TheVariants as readiness
use Rattle.spf_watch.specs.declared.arguments.Command.TheVariants as commands
use Rattle.spf_program.specs.Numbers.{number_up_to, number_in, is_numeral}
use Rattle.spf_program.specs.Pairs.{option_in}
use Rattle.spf_program.specs.Values.{limit_in, ready_in}
use Rattle.spf_watch.specs.Arguments.{command_in, option_names}
use Rattle.spf_watch.specs.Arguments.{x509_setting, make_arguments_in}

zero : number_in (codes "0") ≡ Some 0
unfolding number_up_to is_numeral
zero = refl

leading_zero : number_in (codes "007") ≡ None
unfolding number_up_to is_numeral
leading_zero = refl

signed : number_in (codes "+7") ≡ None
unfolding number_up_to is_numeral
signed = refl

empty : number_in (codes "") ≡ None
unfolding number_up_to is_numeral
empty = refl

greatest : number_in (codes "9223372036854775807") ≡ Some 9223372036854775807
unfolding number_up_to is_numeral
greatest = refl

too_great : number_in (codes "9223372036854775808") ≡ None
unfolding number_up_to is_numeral
too_great = refl

no_limit : limit_in (codes "none") ≡ Some None
unfolding limit_in
no_limit = refl

no_word : command_in [] ≡ None
unfolding command_in
no_word = refl

no_option : command_in (codes "x509" ∷ []) ≡ Some (commands.X509 (record {
  limits = record {
    max_svids = Some 100;
    max_bundles = Some 200;
    max_bundle_der_bytes = Some 4194304;
    max_crl_bytes = Some 4194304;
  };
  deadline = None;
  max_frames = 1000000;
  hint = None;
  ready = readiness.Usable;
}))
unfolding command_in x509_setting option_in
no_option = refl

options : command_in
    (codes "x509" ∷ codes "--hint" ∷ codes "internal" ∷ codes "--max-svids" ∷ codes "none"
    ∷ codes "--ready" ∷ codes "any" ∷ []) ≡ Some (commands.X509 (record {
      limits = record {
        max_svids = None;
        max_bundles = Some 200;
        max_bundle_der_bytes = Some 4194304;
        max_crl_bytes = Some 4194304;
      };
      deadline = None;
      max_frames = 1000000;
      hint = Some (codes "internal");
      ready = readiness.Any;
    }))
unfolding command_in x509_setting option_in option_names limit_in ready_in
options = refl

hint_twice : command_in
    (codes "x509" ∷ codes "--hint" ∷ codes "a" ∷ codes "--hint" ∷ codes "a" ∷ []) ≡ None
unfolding command_in x509_setting option_in option_names
hint_twice = refl

odd_word : command_in (codes "x509" ∷ codes "--hint" ∷ []) ≡ None
unfolding command_in x509_setting
odd_word = refl

unknown_option : command_in (codes "x509" ∷ codes "--lines" ∷ codes "3" ∷ []) ≡ None
unfolding command_in x509_setting option_names
unknown_option = refl

made : command_in (codes "make" ∷ codes "10000" ∷ codes "65535" ∷ [])
    ≡ Some (commands.Make (record { operations = 10000; seed = 65535 }))
unfolding command_in make_arguments_in number_up_to is_numeral
made = refl

too_many_operations : command_in (codes "bench" ∷ codes "10001" ∷ codes "0" ∷ []) ≡ None
unfolding command_in make_arguments_in number_up_to is_numeral
too_many_operations = refl
