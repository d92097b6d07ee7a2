-- Values that are parsed.
use Rattle.std.specs.Prelude.{◌≡◌, IfSome, Option}

-- the result is this value of a text, if the text has one, and P holds for it
pub record IsParsed {A : Type 0} (result parsed : Option A) (P : A → Type 0) : Type 0 where
  pub value : result ≡ parsed
  pub bound : IfSome result P
