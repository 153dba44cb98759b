-- The rules at named texts.
use Rattle.std.proofs.Common.{◌≡◌, true, false, refl, Ok, Err}
use Rattle.std.specs.Prelude.{codes}
use Rattle.spf_id.specs.declared.error.SpiffeIdError.TheVariants.{Empty, WrongScheme}
use Rattle.spf_id.specs.declared.error.SpiffeIdError.TheVariants.{MissingTrustDomain}
use Rattle.spf_id.specs.declared.error.SpiffeIdError.TheVariants.{BadTrustDomainChar, EmptySegment}
use Rattle.spf_id.specs.declared.error.SpiffeIdError.TheVariants.{DotSegment, BadPathChar}
use Rattle.spf_id.specs.declared.error.SpiffeIdError.TheVariants.{TrailingSlash}
use Rattle.spf_id.specs.Id.{id_text}
use Rattle.spf_id.specs.Rule.{domain_rule, segment_rule, parts_rule, id_rule, name_rule}
use Rattle.spf_id.specs.Rule.{has_spiffe_scheme}

name_of_id : name_rule (codes "spiffe://other.org") ≡ Ok (codes "other.org")
unfolding name_rule id_rule parts_rule domain_rule
name_of_id = refl

upper_case : name_rule (codes "Example.org") ≡ Err BadTrustDomainChar
unfolding name_rule domain_rule
upper_case = refl

no_name : name_rule (codes "") ≡ Err Empty
unfolding name_rule
no_name = refl

id : id_rule (codes "spiffe://example.org/w")
    ≡ Ok (record { domain = codes "example.org"; path = codes "/w" })
unfolding id_rule parts_rule domain_rule segment_rule
id = refl

text_of_id : id_text (record { domain = codes "example.org"; path = codes "/w" })
    ≡ codes "spiffe://example.org/w"
unfolding id_text
text_of_id = refl

trailing : id_rule (codes "spiffe://example.org/") ≡ Err TrailingSlash
unfolding id_rule parts_rule domain_rule segment_rule
trailing = refl

empty_segment : id_rule (codes "spiffe://example.org//a") ≡ Err EmptySegment
unfolding id_rule parts_rule domain_rule segment_rule
empty_segment = refl

dots : id_rule (codes "spiffe://example.org/..") ≡ Err DotSegment
unfolding id_rule parts_rule domain_rule segment_rule
dots = refl

space : id_rule (codes "spiffe://example.org/a b") ≡ Err BadPathChar
unfolding id_rule parts_rule domain_rule segment_rule
space = refl

other_case : id_rule (codes "SPIFFE://example.org/w") ≡ Err WrongScheme
unfolding id_rule
other_case = refl

no_domain : id_rule (codes "spiffe:///w") ≡ Err MissingTrustDomain
unfolding id_rule parts_rule
no_domain = refl

any_case : has_spiffe_scheme (codes "SpIfFe:x") ≡ true
unfolding has_spiffe_scheme
any_case = refl

too_short : has_spiffe_scheme (codes "spiffe") ≡ false
unfolding has_spiffe_scheme
too_short = refl
