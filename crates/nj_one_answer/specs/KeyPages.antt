-- When two pages of keys are the same.
use Rattle.std.specs.Prelude.{◌≡◌}
use Rattle.nj_keys.specs.declared.pages.KeyPage.{KeyPage}
use Rattle.nj_keys.specs.declared.pages.Page.{Page}

-- they have the same lines and the same mark
pub record SamePage (one other : Page) : Type 0 where
  pub lines : one.lines.items ≡ other.lines.items
  pub mark : one.mark ≡ other.mark

-- they have the same keys of the same edges, and the same mark
pub record SameKeyPage (one other : KeyPage) : Type 0 where
  pub keys : one.keys.items ≡ other.keys.items
  pub mark : one.mark ≡ other.mark
