-- What the files of an identity hold.
use Rattle.std.specs.Prelude.{◌≡◌, ℕ, List, codes, None, Result, Ok, Err}
use Rattle.spf_disk.specs.declared.generation.Generation.{Generation}
use Rattle.spf_x509.specs.Chain.{svid_of}
use Rattle.spf_x509.specs.Svid.{Svid}
use Rattle.spf_x509.specs.declared.svid_error.X509SvidError.{X509SvidError}
use Rattle.spf_export.specs.declared.export_error.ExportError.{ExportError}
use Rattle.spf_export.specs.declared.export_error.ExportError.TheVariants as errors
use Rattle.spf_export.specs.declared.pem_file.PemFile.{PemFile}
use Rattle.spf_export.specs.declared.pem_file.PemFile.TheVariants as file
use Rattle.spf_export.specs.declared.pem_texts.PemTexts.{PemTexts}
use Rattle.spf_export.specs.Pem.{authorities_of, block, certificates_text}

abbrev pub name_of : PemFile → List ℕ
name_of file.Bundle = codes "svid_bundle.pem"
name_of file.Key = codes "svid_key.pem"
name_of file.Chain = codes "svid.pem"

-- 384 is 0600 in octal, and 420 is 0644
abbrev pub mode_of : PemFile → ℕ
mode_of file.Key = 384
mode_of _ = 420

abbrev pub text_of : PemTexts → PemFile → List ℕ
text_of texts file.Bundle = texts.bundle.items
text_of texts file.Key = texts.key.items
text_of texts file.Chain = texts.chain.items

-- The SVID of a generation; it is damaged where its chain and key are none.
abbrev pub IsSvidIn : Generation → Result Svid ExportError → Type 0
IsSvidIn g (Ok svid) = svid_of g.chain g.key None ≡ Ok svid
IsSvidIn g (Err errors.Damaged) = (e : X509SvidError) × (svid_of g.chain g.key None ≡ Err e)
IsSvidIn g (Err errors.OutOfMemory) = Unit {0}
IsSvidIn g (Err _) = ⊥

-- The authorities of the trust domain of the SVID, its key, and its chain.
pub record AreTextsOf (g : Generation) (texts : PemTexts) : Type 0 where
  pub svid : Svid
  pub is : IsSvidIn g (Ok svid)
  pub bundle : texts.bundle.items ≡ certificates_text (authorities_of svid.id.domain g.authorities)
  pub key : texts.key.items ≡ block (codes "PRIVATE KEY") g.key
  pub chain : texts.chain.items ≡ certificates_text svid.chain

abbrev pub AreTexts : Generation → Result PemTexts ExportError → Type 0
AreTexts g (Ok texts) = AreTextsOf g texts
AreTexts g (Err e) = IsSvidIn g (Err e)
