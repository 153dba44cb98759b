-- Generated sessions: streams of updates of any length, the same for the same seed.
use Rattle.std.specs.Prelude.{ℕ, zero, suc, ◌+◌, ◌*◌, ◌%◌, ℤ, pos, true, false, ◌==◌, nat_lt}
use Rattle.std.specs.Prelude.{if◌then◌else◌, List, [], ◌∷◌, ◌++◌, Option, None, Some, codes}
use Rattle.std.specs.Int.{w64, to_be_bytes}
use Rattle.spf_der.specs.declared.extensions.KeyUsageBits.{KeyUsageBits}
use Rattle.spf_der.specs.declared.writer.CertSpec.{CertSpec}
use Rattle.spf_der.specs.Written.{certificate_text, key_text}
use Rattle.spf_der.specs.WrittenTime.{expiry_text}
use Rattle.spf_api.specs.declared.response.SvidEntry.{SvidEntry}
use Rattle.spf_api.specs.declared.response.ContextResponse.{ContextResponse}
use Rattle.spf_api.specs.Layout.{field_text, context_payload}
use Rattle.spf_view.specs.Frames.{raw_text}
use Rattle.spf_frame.specs.declared.frame_kind.TheConstants.{CLIENT_MADE, CONNECTED, ITEM}
use Rattle.spf_frame.specs.declared.frame_kind.TheConstants.{ITEM_STATUS, STREAM_END, MOMENT, CLOSE}
use Rattle.spf_watch.specs.declared.generated.Variant.{Variant}
use Rattle.spf_watch.specs.declared.generated.Variant.TheVariants as variants
use Rattle.spf_watch.specs.declared.arguments.MakeArguments.{MakeArguments}

-- ---- certificates

-- when the certificates of a generation expire, in Unix seconds
abbrev pub expiry_of : ℕ → ℤ
expiry_of generation = pos (2000000000 + generation)

abbrev pub signs_data : KeyUsageBits
signs_data = record { digital_signature = true; key_cert_sign = false; crl_sign = false }

abbrev pub signs_certificates : KeyUsageBits
signs_certificates = record { digital_signature = false; key_cert_sign = true; crl_sign = false }

-- the identity of a workload, by its index from 0 to 2
abbrev pub identity : ℕ → List ℕ
identity index = codes "spiffe://example.org/w" ++ (48 + index) ∷ []

-- the certificates of a generation: the leaf of a workload,
-- the intermediate, and the authority with a serial number
abbrev pub leaf_spec : ℕ → ℕ → CertSpec
leaf_spec index generation =
    record {
      serial = 1 + index;
      expiry = expiry_of generation;
      key_usage = Some signs_data;
      ca = Some false;
      uris = identity index ∷ [];
    }

abbrev pub intermediate_spec : ℕ → CertSpec
intermediate_spec generation =
    record {
      serial = 20;
      expiry = expiry_of generation;
      key_usage = Some signs_certificates;
      ca = Some true;
      uris = [];
    }

abbrev pub root_spec : ℕ → ℕ → CertSpec
root_spec serial generation =
    record {
      serial = serial;
      expiry = expiry_of generation;
      key_usage = None;
      ca = None;
      uris = [];
    }

abbrev pub leaf : ℕ → ℕ → List ℕ
leaf index generation =
    certificate_text (leaf_spec index generation) (expiry_text (expiry_of generation))

abbrev pub intermediate : ℕ → List ℕ
intermediate generation =
    certificate_text (intermediate_spec generation) (expiry_text (expiry_of generation))

abbrev pub root : ℕ → ℕ → List ℕ
root serial generation =
    certificate_text (root_spec serial generation) (expiry_text (expiry_of generation))

-- ---- items

-- the two authorities of a bundle, which a reordered item has in the other order
abbrev pub roots_of : Variant → ℕ → List ℕ
roots_of variants.Plain generation = root 10 generation ++ root 11 generation
roots_of variants.Reordered generation = root 11 generation ++ root 10 generation
roots_of variants.BadKey generation = root 10 generation ++ root 11 generation

-- the key of the first entry, which a bad item spoils
abbrev pub first_key : Variant → List ℕ
first_key variants.Plain = key_text 1
first_key variants.Reordered = key_text 1
first_key variants.BadKey = 0 ∷ []

-- three entries, of which a reordered item has the last two in the other order
abbrev pub ordered : {A : Type 0} → Variant → A → A → A → List A
ordered variants.Plain first second third = first ∷ second ∷ third ∷ []
ordered variants.Reordered first second third = first ∷ third ∷ second ∷ []
ordered variants.BadKey first second third = first ∷ second ∷ third ∷ []

-- the entry of a workload, by its index, with this key and this bundle
abbrev pub entry : ℕ → ℕ → List ℕ → List ℕ → SvidEntry
entry generation index key bundle = record {
  spiffe_id = identity index;
  x509_svid = leaf index generation ++ intermediate generation;
  x509_svid_key = key;
  bundle = bundle;
  hint = [];
}

abbrev pub entries : Variant → ℕ → List SvidEntry
entries variant generation =
    ordered variant
    (entry generation 0 (first_key variant) (roots_of variant generation))
    (entry generation 1 (key_text 2) (roots_of variant generation))
    (entry generation 2 (key_text 3) (roots_of variant generation))

abbrev pub item : Variant → ℕ → ContextResponse
item variant generation = record {
  svids = entries variant generation;
  federated = record { name = codes "other.org"; bundle = root 12 generation } ∷ [];
  crls = [];
}

-- ---- frames

abbrev pub moment_frame : List ℕ
moment_frame = raw_text MOMENT (to_be_bytes w64 1000)

-- a client is made and connected
abbrev pub client_frames : List ℕ
client_frames = raw_text CLIENT_MADE [] ++ raw_text CONNECTED []

unfoldable pub item_frame : Variant → ℕ → List ℕ
item_frame variant generation = raw_text ITEM (context_payload (item variant generation))

-- the status 7, `no`
abbrev pub denial_frame : List ℕ
denial_frame = raw_text ITEM_STATUS (7 ∷ field_text (codes "no"))

abbrev pub end_frame : List ℕ
end_frame = raw_text STREAM_END []

abbrev pub close_frame : List ℕ
close_frame = raw_text CLOSE []

-- ---- operations

-- the next number of a seed, and what it chooses
abbrev pub next_seed : ℕ → ℕ
next_seed seed = (75 * seed + 74) % 65537

-- four of eight choices raise the generation
abbrev pub generation_by : ℕ → ℕ → ℕ
generation_by seed generation = if nat_lt (seed % 8) 4 then generation + 1 else generation

-- the frames of an operation, by its choice and the generation after it
unfoldable pub frames_by : ℕ → ℕ → List ℕ
frames_by choice generation =
    if nat_lt choice 4 then item_frame variants.Plain generation
    else (if choice == 4 then item_frame variants.Reordered generation
    else (if choice == 5 then denial_frame ++ client_frames
    else (if choice == 6 then end_frame ++ client_frames
    else item_frame variants.BadKey generation ++ client_frames)))

-- the frames of a number of operations after a seed and a generation, and of the close
abbrev pub frames_from : ℕ → ℕ → ℕ → List ℕ
frames_from zero seed generation = close_frame
frames_from (suc left) seed generation =
    frames_by (next_seed seed % 8) (generation_by (next_seed seed) generation)
    ++ frames_from left (next_seed seed) (generation_by (next_seed seed) generation)

-- MadeSession: the opening, the operations, and the close
abbrev pub made_session : MakeArguments → List ℕ
made_session arguments =
    (moment_frame ++ client_frames ++ item_frame variants.Plain 0 ++ client_frames)
    ++ frames_from arguments.operations arguments.seed 0

-- ---- what is still to come

-- a number of operations and the close, or nothing
abbrev pub frames_left : Option ℕ → ℕ → ℕ → List ℕ
frames_left None seed generation = []
frames_left (Some left) seed generation = frames_from left seed generation
