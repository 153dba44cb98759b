-- ValidateJWTSVIDResponse, whose claims are a Struct of the well-known types of Protocol Buffers
-- (google/protobuf/struct.proto).
use Rattle.std.specs.Prelude.{ℕ, zero, suc, List, [], ◌∷◌, not, ◌==◌, Option, Some, None}
use Rattle.std.specs.Prelude.{if◌then◌else◌}
use Rattle.std.specs.List.{flat_map, list_all}
use Rattle.std.specs.Option.{option_map}
use Rattle.std.specs.Str.{is_utf8}
use Rattle.spf_io.specs.Option.{◌>>=◌}
use Rattle.spf_api.specs.declared.response.Claim.{Claim}
use Rattle.spf_api.specs.declared.response.ClaimValue.{ClaimValue, Unset, Null}
use Rattle.spf_api.specs.declared.response.ClaimValue.{Bool as Truth, Words, Items, Fields}
use Rattle.spf_api.specs.declared.response.ValidationResponse.{ValidationResponse}
use Rattle.spf_messages.specs.Wire.{WireField, WireValue, Varint, Eight, Octets}
use Rattle.spf_messages.specs.Message.{fields_of, values_of, last_of, last_or}
use Rattle.spf_messages.specs.Message.{is_entry_field, each, entries_in, last_of_each}
use Rattle.spf_messages.specs.Numbers.{number_value}

abbrev pub claim_name : Claim → List ℕ
claim_name c = c.name

-- the name and the value that the fields of an entry say; without a value a Value without fields
abbrev pub claim_from : (List ℕ → Option ClaimValue) → List WireField → Option Claim
claim_from value fs = do
  empty ← value []
  vs ← each value (values_of 2 fs)
  Some (record { name = last_of 1 fs; value = last_or empty vs })

-- an entry of a Struct: key 1, value 2, a Value
abbrev pub claim_with : (List ℕ → Option ClaimValue) → List ℕ → Option Claim
claim_with value bytes = do
  fs ← fields_of bytes
  if list_all is_entry_field fs then claim_from value fs else None

-- the entries of a Struct, in order: fields 1
abbrev pub claims_with : (List ℕ → Option ClaimValue) → List ℕ → Option (List Claim)
claims_with value bytes = entries_in (claim_with value) 1 1 bytes

-- what a field of a Value says of it: null_value 1, number_value 2, string_value 3, bool_value 4,
-- struct_value 5, list_value 6 (a ListValue: values 1); nothing where the number is another one
abbrev pub null_said : WireValue → Option ClaimValue
null_said (Varint number) = Some Null
null_said _ = None

abbrev pub number_said : WireValue → Option ClaimValue
number_said (Eight bits) = Some (number_value bits)
number_said _ = None

abbrev pub words_said : WireValue → Option ClaimValue
words_said (Octets octets) = if is_utf8 octets then Some (Words octets) else None
words_said _ = None

abbrev pub truth_said : WireValue → Option ClaimValue
truth_said (Varint number) = Some (Truth (not (number == 0)))
truth_said _ = None

abbrev pub fields_said : (List ℕ → Option ClaimValue) → WireValue → Option ClaimValue
fields_said value (Octets octets) =
    option_map (λ claims. Fields (last_of_each claim_name claims)) (claims_with value octets)
fields_said value _ = None

abbrev pub items_said : (List ℕ → Option ClaimValue) → WireValue → Option ClaimValue
items_said value (Octets octets) = option_map Items (entries_in value 1 1 octets)
items_said value _ = None

abbrev pub said_by : (List ℕ → Option ClaimValue) → WireField → Option (Option ClaimValue)
said_by value f =
    if f.number == 1 then option_map Some (null_said f.value)
    else (if f.number == 2 then option_map Some (number_said f.value)
    else (if f.number == 3 then option_map Some (words_said f.value)
    else (if f.number == 4 then option_map Some (truth_said f.value)
    else (if f.number == 5 then option_map Some (fields_said value f.value)
    else (if f.number == 6 then option_map Some (items_said value f.value)
    else Some None)))))

-- the last value that was said, and `first` where none was
abbrev pub last_said : ClaimValue → List (Option ClaimValue) → ClaimValue
last_said first [] = first
last_said first (None ∷ others) = last_said first others
last_said first (Some v ∷ others) = last_said v others

-- a Value, with values at most `depth` deep, of which it is one
abbrev pub value_of : ℕ → List ℕ → Option ClaimValue
value_of zero bytes = None
value_of (suc depth) bytes =
    fields_of bytes >>= λ fs. each (said_by (value_of depth)) fs >>= λ said.
    Some (last_said Unset said)

-- the entries of a Struct of claims, whose values stand 1 deep, and none deeper than 64
abbrev pub claims_of : List ℕ → Option (List Claim)
claims_of bytes = claims_with (value_of 64) bytes

-- the Struct that these entries of one or more make; none where there are none
abbrev pub merged : List (List Claim) → Option (List Claim)
merged [] = None
merged (claims ∷ others) = Some (last_of_each claim_name (flat_map (λ cs. cs) (claims ∷ others)))

-- ValidateJWTSVIDResponse: spiffe_id 1, claims 2
abbrev pub validation_from : List WireField → Option ValidationResponse
validation_from fs = do
  cs ← each claims_of (values_of 2 fs)
  Some (record { spiffe_id = last_of 1 fs; claims = merged cs })

unfoldable pub validation_message : List ℕ → Option ValidationResponse
validation_message bytes = do
  fs ← fields_of bytes
  if list_all is_entry_field fs then validation_from fs else None
