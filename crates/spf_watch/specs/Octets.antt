-- The octets that separate fields and lines.
use Rattle.std.specs.Prelude.{ℕ}

abbrev pub SPACE : ℕ
SPACE = 32

abbrev pub LINE_FEED : ℕ
LINE_FEED = 10
