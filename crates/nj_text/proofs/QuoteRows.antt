-- Worked rows of shell quotes, computed on the definitions.
use Rattle.std.proofs.Common.{◌≡◌, [], Some, None, refl}
use Rattle.std.specs.Prelude.{codes}
use Rattle.nj_text.specs.Quotes.{quoted}
use Rattle.nj_text.specs.QuoteLaws.{shell_word}

pub plain : quoted (codes "out/a-b_c+d.o") ≡ codes "out/a-b_c+d.o"
unfolding quoted
plain = refl

space : quoted (codes "o 1") ≡ codes "'o 1'"
unfolding quoted
space = refl

quote_and_space : quoted (codes "it's x") ≡ codes "'it'\\''s x'"
unfolding quoted
quote_and_space = refl

quote_alone : quoted (codes "'") ≡ codes "''\\'''"
unfolding quoted
quote_alone = refl

at_sign : quoted (codes "@") ≡ codes "'@'"
unfolding quoted
at_sign = refl

tilde : quoted (codes "~") ≡ codes "'~'"
unfolding quoted
tilde = refl

empty : quoted ([]) ≡ []
unfolding quoted
empty = refl

-- ---- a text as a shell reads it

word_in_quotes : shell_word (codes "a'b c'd") ≡ Some (codes "ab cd")
word_in_quotes = refl

quote_after_backslash : shell_word (codes "a\\'b") ≡ Some (codes "a'b")
quote_after_backslash = refl

two_words : shell_word (codes "a b") ≡ None
two_words = refl

open_quotes : shell_word (codes "'a") ≡ None
open_quotes = refl
