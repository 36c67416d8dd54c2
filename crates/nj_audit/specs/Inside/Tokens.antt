-- How tokens are held. Nothing here has to be believed.
use Rattle.std.specs.Prelude.{ℕ, List}
use Rattle.nj_audit.specs.ShellWords.{TokenModel}
use Rattle.nj_audit.specs.ShellWords.TokenModel.{Word, Operator}
use Rattle.nj_audit.specs.declared.shell_words.Token.{Token}
use Rattle.nj_audit.specs.declared.shell_words.Token.TheVariants.{Word as InBuffer, Operator as ByteOf}

-- a token, by the word in the buffer
abbrev pub token_model : (word : List ℕ) → Token → TokenModel
token_model word InBuffer = Word word
token_model word (ByteOf b) = Operator b
