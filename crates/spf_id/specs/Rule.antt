-- The rules of trust domains and SPIFFE IDs, in order (SPIFFE-ID section 2).
use Rattle.std.specs.Prelude.{◌≡◌, ℕ, Bool, true, false, ◌||◌, not, List, [], ◌∷◌, length, take}
use Rattle.std.specs.Prelude.{drop, Result, Ok, Err, nat_lt, ◌==◌, nat_eq, if◌then◌else◌, codes}
use Rattle.std.specs.Char.{is_ascii_digit, is_ascii_lowercase, is_ascii_alphanumeric}
use Rattle.std.specs.List.{flat_map, slice_split, list_all, starts_with}
use Rattle.std.specs.Str.{bytes_eq, str_eq_ignore_ascii_case}
use Rattle.spf_io.specs.Rule.{◌>>=◌}
use Rattle.spf_id.specs.Id.{Id, id_text}
use Rattle.spf_id.specs.declared.error.SpiffeIdError.{SpiffeIdError}
use Rattle.spf_id.specs.declared.error.SpiffeIdError.TheVariants.{Empty, TooLong, WrongScheme}
use Rattle.spf_id.specs.declared.error.SpiffeIdError.TheVariants.{MissingTrustDomain}
use Rattle.spf_id.specs.declared.error.SpiffeIdError.TheVariants.{TrustDomainTooLong}
use Rattle.spf_id.specs.declared.error.SpiffeIdError.TheVariants.{BadTrustDomainChar, EmptySegment}
use Rattle.spf_id.specs.declared.error.SpiffeIdError.TheVariants.{DotSegment, BadPathChar}
use Rattle.spf_id.specs.declared.error.SpiffeIdError.TheVariants.{TrailingSlash, OutOfMemory}

-- whether an error says that memory ran out
abbrev pub is_memory : SpiffeIdError → Bool
is_memory OutOfMemory = true
is_memory _ = false

abbrev pub SLASH : ℕ
SLASH = 47

abbrev pub FULL_STOP : ℕ
FULL_STOP = 46

abbrev pub HYPHEN : ℕ
HYPHEN = 45

abbrev pub UNDERSCORE : ℕ
UNDERSCORE = 95

abbrev pub is_slash : ℕ → Bool
is_slash c = c == SLASH

-- whether an octet is `.`, `-` or `_`
abbrev pub is_mark : ℕ → Bool
is_mark c = c == FULL_STOP || c == HYPHEN || c == UNDERSCORE

-- a-z, 0-9, `.`, `-`, `_`
abbrev pub is_domain_octet : ℕ → Bool
is_domain_octet c = is_ascii_lowercase c || is_ascii_digit c || is_mark c

-- letters and digits of ASCII, `.`, `-`, `_`
abbrev pub is_path_octet : ℕ → Bool
is_path_octet c = is_ascii_alphanumeric c || is_mark c

-- the rules of a trust domain that is not empty
unfoldable pub domain_rule : List ℕ → Result (Unit {0}) SpiffeIdError
domain_rule domain =
    if nat_lt 255 (length domain) then Err TrustDomainTooLong
    else (if not (list_all is_domain_octet domain) then Err BadTrustDomainChar
    else Ok tt)

-- the rules of a segment; `empty` is the error of an empty one
unfoldable pub segment_rule : SpiffeIdError → List ℕ → Result (Unit {0}) SpiffeIdError
segment_rule empty segment =
    if length segment == 0 then Err empty
    else (if bytes_eq segment (codes ".") || bytes_eq segment (codes "..") then Err DotSegment
    else (if not (list_all is_path_octet segment) then Err BadPathChar
    else Ok tt))

-- the first broken segment decides
abbrev pub segments_rule : List (List ℕ) → Result (Unit {0}) SpiffeIdError
segments_rule [] = Ok tt
segments_rule (segment ∷ []) = segment_rule TrailingSlash segment
segments_rule (segment ∷ next ∷ others) =
    segment_rule EmptySegment segment >>= λ _. segments_rule (next ∷ others)

-- the path of these segments: `/` and a segment for each
abbrev pub path_of : List (List ℕ) → List ℕ
path_of segments = flat_map (λ segment. SLASH ∷ segment) segments

-- the segments of a path, which is empty or begins with `/`
abbrev pub segments_of : List ℕ → List (List ℕ)
segments_of [] = []
segments_of (slash ∷ text) = slice_split is_slash text

-- the parts between slashes: a trust domain, and the segments of a path
unfoldable pub parts_rule : List (List ℕ) → Result Id SpiffeIdError
parts_rule [] = Err MissingTrustDomain
parts_rule (domain ∷ segments) =
    if length domain == 0 then Err MissingTrustDomain
    else (domain_rule domain >>= λ _. segments_rule segments
    >>= λ _. Ok (record { domain = domain; path = path_of segments }))

-- IdRule: the trust domain and the path of an ID, or the first broken rule
unfoldable pub id_rule : List ℕ → Result Id SpiffeIdError
id_rule text =
    if length text == 0 then Err Empty
    else (if nat_lt 2048 (length text) then Err TooLong
    else (if not (starts_with nat_eq text (codes "spiffe://")) then Err WrongScheme
    else parts_rule (slice_split is_slash (drop 9 text))))

-- the text of an ID that breaks no rule
pub record IsTextOf (id : Id) (t : List ℕ) : Type 0 where
  pub text : t ≡ id_text id
  pub rule : id_rule t ≡ Ok id

-- whether a text contains `:/`
abbrev pub holds_colon_slash : List ℕ → Bool
holds_colon_slash [] = false
holds_colon_slash (c ∷ text) = starts_with nat_eq (c ∷ text) (codes ":/") || holds_colon_slash text

-- NameRule: the trust domain that a text names, alone or as an ID, or the first broken rule
unfoldable pub name_rule : List ℕ → Result (List ℕ) SpiffeIdError
name_rule text =
    if holds_colon_slash text then (id_rule text >>= λ id. Ok id.domain)
    else (if length text == 0 then Err Empty
    else (domain_rule text >>= λ _. Ok text))

-- a name by itself: it names the trust domain that it is
abbrev pub IsName : List ℕ → Type 0
IsName name = name_rule name ≡ Ok name

-- whether the first seven octets are `spiffe:`, ASCII case apart
unfoldable pub has_spiffe_scheme : List ℕ → Bool
has_spiffe_scheme uri = str_eq_ignore_ascii_case (take 7 uri) (codes "spiffe:")
