-- The words of the subset, and the words that no name is spelt like, by their first bytes.
use Rattle.std.specs.Prelude.{ℕ, List, [], ◌∷◌, if◌then◌else◌, nat_eq, codes}
use Rattle.c_text.specs.declared.tokens.CWord.{CWord}
use Rattle.c_text.specs.declared.tokens.CWord.TheVariants as word_of_c
use Rattle.c_read_tokens.specs.declared.words.Reserved.{Reserved}
use Rattle.c_read_tokens.specs.declared.words.Reserved.TheVariants as word

abbrev pub reserved_bytes : Reserved → List ℕ
reserved_bytes word.Auto = codes "auto"
reserved_bytes word.Break = codes "break"
reserved_bytes word.Case = codes "case"
reserved_bytes word.Char = codes "char"
reserved_bytes word.Const = codes "const"
reserved_bytes word.Continue = codes "continue"
reserved_bytes word.Default = codes "default"
reserved_bytes word.Do = codes "do"
reserved_bytes word.Double = codes "double"
reserved_bytes word.Else = codes "else"
reserved_bytes word.Enum = codes "enum"
reserved_bytes word.Extern = codes "extern"
reserved_bytes word.Float = codes "float"
reserved_bytes word.For = codes "for"
reserved_bytes word.Goto = codes "goto"
reserved_bytes word.If = codes "if"
reserved_bytes word.Inline = codes "inline"
reserved_bytes word.Int = codes "int"
reserved_bytes word.Long = codes "long"
reserved_bytes word.Register = codes "register"
reserved_bytes word.Restrict = codes "restrict"
reserved_bytes word.Return = codes "return"
reserved_bytes word.Short = codes "short"
reserved_bytes word.Signed = codes "signed"
reserved_bytes word.Sizeof = codes "sizeof"
reserved_bytes word.Static = codes "static"
reserved_bytes word.Struct = codes "struct"
reserved_bytes word.Switch = codes "switch"
reserved_bytes word.Typedef = codes "typedef"
reserved_bytes word.Union = codes "union"
reserved_bytes word.Unsigned = codes "unsigned"
reserved_bytes word.Void = codes "void"
reserved_bytes word.Volatile = codes "volatile"
reserved_bytes word.While = codes "while"
reserved_bytes word.Bool = codes "_Bool"
reserved_bytes word.Complex = codes "_Complex"
reserved_bytes word.Imaginary = codes "_Imaginary"
reserved_bytes word.Uint8 = codes "uint8_t"
reserved_bytes word.Uint16 = codes "uint16_t"
reserved_bytes word.Uint32 = codes "uint32_t"
reserved_bytes word.Uint64 = codes "uint64_t"
reserved_bytes word.SizeT = codes "size_t"

-- The byte that bytes begin with; 0 where there is none.
abbrev pub first_byte : List ℕ → ℕ
first_byte [] = 0
first_byte (byte ∷ bytes) = byte

-- The words of the subset that begin with a byte.
abbrev pub words_from : ℕ → List CWord
words_from byte =
    if nat_eq byte 95 then word_of_c.Bool ∷ [] else
    if nat_eq byte 99 then word_of_c.Case ∷ word_of_c.Char ∷ word_of_c.Const ∷ [] else
    if nat_eq byte 100 then word_of_c.Default ∷ [] else
    if nat_eq byte 101 then word_of_c.Else ∷ [] else
    if nat_eq byte 103 then word_of_c.Goto ∷ [] else
    if nat_eq byte 105 then word_of_c.If ∷ word_of_c.Inline ∷ [] else
    if nat_eq byte 114 then word_of_c.Return ∷ [] else
    if nat_eq byte 115 then word_of_c.Sizeof ∷ word_of_c.SizeT ∷ word_of_c.Static ∷ word_of_c.Struct ∷ word_of_c.Switch ∷ [] else
    if nat_eq byte 116 then word_of_c.Typedef ∷ [] else
    if nat_eq byte 117 then word_of_c.Uint8 ∷ word_of_c.Uint16 ∷ word_of_c.Uint32 ∷ word_of_c.Uint64 ∷ [] else
    if nat_eq byte 118 then word_of_c.Void ∷ [] else
    if nat_eq byte 119 then word_of_c.While ∷ [] else
    []

-- The words that no name is spelt like, of those that begin with a byte.
abbrev pub reserved_from : ℕ → List Reserved
reserved_from byte =
    if nat_eq byte 95 then word.Bool ∷ word.Complex ∷ word.Imaginary ∷ [] else
    if nat_eq byte 97 then word.Auto ∷ [] else
    if nat_eq byte 98 then word.Break ∷ [] else
    if nat_eq byte 99 then word.Case ∷ word.Char ∷ word.Const ∷ word.Continue ∷ [] else
    if nat_eq byte 100 then word.Default ∷ word.Do ∷ word.Double ∷ [] else
    if nat_eq byte 101 then word.Else ∷ word.Enum ∷ word.Extern ∷ [] else
    if nat_eq byte 102 then word.Float ∷ word.For ∷ [] else
    if nat_eq byte 103 then word.Goto ∷ [] else
    if nat_eq byte 105 then word.If ∷ word.Inline ∷ word.Int ∷ [] else
    if nat_eq byte 108 then word.Long ∷ [] else
    if nat_eq byte 114 then word.Register ∷ word.Restrict ∷ word.Return ∷ [] else
    if nat_eq byte 115 then word.Short ∷ word.Signed ∷ word.Sizeof ∷ word.SizeT ∷ word.Static ∷ word.Struct ∷ word.Switch ∷ [] else
    if nat_eq byte 116 then word.Typedef ∷ [] else
    if nat_eq byte 117 then word.Uint8 ∷ word.Uint16 ∷ word.Uint32 ∷ word.Uint64 ∷ word.Union ∷ word.Unsigned ∷ [] else
    if nat_eq byte 118 then word.Void ∷ word.Volatile ∷ [] else
    if nat_eq byte 119 then word.While ∷ [] else
    []
