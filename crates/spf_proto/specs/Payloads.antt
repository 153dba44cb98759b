-- The layout of payloads, of spf_api.
pub use Rattle.spf_api.specs.Layout.{HasLength32, IsText, IsListOf, IsSvidEntry, IsBundleEntry}
pub use Rattle.spf_api.specs.Layout.{IsContext}
unfoldable pub use Rattle.spf_api.specs.Layout.{field_text, list_text, svid_entry_text}
unfoldable pub use Rattle.spf_api.specs.Layout.{bundle_entry_text, context_payload}
