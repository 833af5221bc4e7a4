-- What waits to be printed: the first bytes of a buffer.
use Rattle.std.specs.Prelude.{ℕ, ◌+◌, List, [], ◌++◌, length, leb, cond}

-- no line is longer: a word of at most 8 bytes, and at most three numbers of at most 20 digits with a byte after each
abbrev pub longest : ℕ
longest = 71

-- What waits where a line begins: nothing where the longest might not have room behind it, for it is written out then.
abbrev pub before_line : ℕ → List ℕ → List ℕ
before_line room waits = cond (leb (length waits + longest) room) waits []

-- What waits once a text is put behind it: nothing where the text has no room, for both are written out then.
abbrev pub behind : ℕ → List ℕ → List ℕ → List ℕ
behind room waits text = cond (leb (length waits + length text) room) (waits ++ text) []
