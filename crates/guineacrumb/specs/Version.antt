-- The version of the library, as include/guineacrumb.h names it.
use Rattle.std.specs.Prelude.{ℕ}

-- 0.2.0, a byte each
abbrev pub version : ℕ
version = 512
