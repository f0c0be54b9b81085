-- The words of the language, as they are written.
use Rattle.std.specs.Prelude.{ℕ, Option, Some, None, List, [], ◌∷◌, if◌then◌else◌, nat_eq, codes}
use Rattle.wf_tokens.specs.declared.words.Word.{Word}
use Rattle.wf_tokens.specs.declared.words.Word.TheVariants as word

abbrev pub word_text : Word → List ℕ
word_text word.And = codes "and"
word_text word.Args = codes "args"
word_text word.Array = codes "array"
word_text word.As = codes "as"
word_text word.Assert = codes "assert"
word_text word.Base = codes "base"
word_text word.Break = codes "break"
word_text word.Const = codes "const"
word_text word.Continue = codes "continue"
word_text word.Else = codes "else"
word_text word.Endwhile = codes "endwhile"
word_text word.False = codes "false"
word_text word.Func = codes "func"
word_text word.If = codes "if"
word_text word.Inv = codes "inv"
word_text word.Not = codes "not"
word_text word.Nothing = codes "nothing"
word_text word.Ok = codes "ok"
word_text word.Or = codes "or"
word_text word.Post = codes "post"
word_text word.Pre = codes "pre"
word_text word.Pri = codes "pri"
word_text word.Pub = codes "pub"
word_text word.Return = codes "return"
word_text word.Slice = codes "slice"
word_text word.Status = codes "status"
word_text word.Struct = codes "struct"
word_text word.This = codes "this"
word_text word.True = codes "true"
word_text word.Var = codes "var"
word_text word.Via = codes "via"
word_text word.While = codes "while"
word_text word.Yield = codes "yield"

-- The words that begin with a byte.
abbrev pub words_from : ℕ → List Word
words_from byte =
    if nat_eq byte 97 then word.And ∷ word.Args ∷ word.Array ∷ word.As ∷ word.Assert ∷ [] else
    if nat_eq byte 98 then word.Base ∷ word.Break ∷ [] else
    if nat_eq byte 99 then word.Const ∷ word.Continue ∷ [] else
    if nat_eq byte 101 then word.Else ∷ word.Endwhile ∷ [] else
    if nat_eq byte 102 then word.False ∷ word.Func ∷ [] else
    if nat_eq byte 105 then word.If ∷ word.Inv ∷ [] else
    if nat_eq byte 110 then word.Not ∷ word.Nothing ∷ [] else
    if nat_eq byte 111 then word.Ok ∷ word.Or ∷ [] else
    if nat_eq byte 112 then word.Post ∷ word.Pre ∷ word.Pri ∷ word.Pub ∷ [] else
    if nat_eq byte 114 then word.Return ∷ [] else
    if nat_eq byte 115 then word.Slice ∷ word.Status ∷ word.Struct ∷ [] else
    if nat_eq byte 116 then word.This ∷ word.True ∷ [] else
    if nat_eq byte 118 then word.Var ∷ word.Via ∷ [] else
    if nat_eq byte 119 then word.While ∷ [] else
    if nat_eq byte 121 then word.Yield ∷ [] else
    []

-- The only word that a text can be which begins with these bytes and has so many.
abbrev pub likely_word : (first second third len : ℕ) → Option Word
likely_word first second third len =
    if nat_eq first 97 then (if nat_eq len 2 then Some word.As else if nat_eq len 3 then Some word.And else if nat_eq len 4 then Some word.Args else if nat_eq len 5 then Some word.Array else Some word.Assert) else
    if nat_eq first 98 then (if nat_eq len 4 then Some word.Base else Some word.Break) else
    if nat_eq first 99 then (if nat_eq len 5 then Some word.Const else Some word.Continue) else
    if nat_eq first 101 then (if nat_eq len 4 then Some word.Else else Some word.Endwhile) else
    if nat_eq first 102 then (if nat_eq len 5 then Some word.False else Some word.Func) else
    if nat_eq first 105 then (if nat_eq len 2 then Some word.If else Some word.Inv) else
    if nat_eq first 110 then (if nat_eq len 3 then Some word.Not else Some word.Nothing) else
    if nat_eq first 111 then (if nat_eq second 107 then Some word.Ok else Some word.Or) else
    if nat_eq first 112 then (if nat_eq third 101 then Some word.Pre else if nat_eq third 105 then Some word.Pri else if nat_eq third 115 then Some word.Post else Some word.Pub) else
    if nat_eq first 114 then Some word.Return else
    if nat_eq first 115 then (if nat_eq third 97 then Some word.Status else if nat_eq third 105 then Some word.Slice else Some word.Struct) else
    if nat_eq first 116 then (if nat_eq third 105 then Some word.This else Some word.True) else
    if nat_eq first 118 then (if nat_eq third 114 then Some word.Var else Some word.Via) else
    if nat_eq first 119 then Some word.While else
    if nat_eq first 121 then Some word.Yield else
    None
