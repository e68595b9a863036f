-- The rows of the reader's table of key words.
use Rattle.words.specs.Keys.{key_of}
use Rattle.text.specs.declared.Kind.{Kind}
use Rattle.text.specs.Line.{keyword, shape_of}
use Rattle.line_reader.specs.declared.Keyword.{Keyword}

-- a kind with its key and its shape, as the reader's table has it
unfoldable pub row_of : Kind → Keyword
row_of k = record { key = key_of (keyword k); kind = k; shape = shape_of k }
