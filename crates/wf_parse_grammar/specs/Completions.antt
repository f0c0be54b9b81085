-- For each symbol one list of tokens that completes it.
use Rattle.std.specs.Prelude.{List, [], ◌∷◌}
use Rattle.wf_text.specs.declared.place.Place.{Place}
use Rattle.wf_ast.specs.declared.parsed.Name.{Name}
use Rattle.wf_parse_grammar.specs.declared.tokens.Kind.{Kind}
use Rattle.wf_parse_grammar.specs.declared.tokens.Kind.TheVariants as kinds
use Rattle.wf_parse_grammar.specs.declared.tokens.Token.{Token}
use Rattle.wf_parse_grammar.specs.Grammar.{token, name_token, text_token}
use Rattle.wf_parse_grammar.specs.declared.symbols.Sym.{Sym}
use Rattle.wf_parse_grammar.specs.declared.symbols.Sym.TheVariants as syms

abbrev pub nowhere : Place
nowhere = record { file = 0; line = 0; col = 0 }

abbrev pub some_name : Name
some_name = record { text = record { 0 = 0 }; at = nowhere }

abbrev pub plain : Kind → Token
plain kind = token kind nowhere

abbrev pub zero_then : List Token → List Token
zero_then rest = plain (kinds.Number 0) ∷ rest

abbrev pub parentheses_then : List Token → List Token
parentheses_then rest = plain kinds.OpenRound ∷ plain kinds.CloseRound ∷ rest

abbrev pub braces_then : List Token → List Token
braces_then rest = plain kinds.OpenCurly ∷ plain kinds.CloseCurly ∷ rest

-- The tokens that complete a symbol, before others.
abbrev pub completion_before : Sym → List Token → List Token
completion_before syms.File rest = rest
completion_before syms.Decl rest = plain kinds.Status ∷ text_token some_name ∷ rest
completion_before syms.FieldsMark rest = parentheses_then rest
completion_before syms.FieldsOpen rest = parentheses_then rest
completion_before syms.Fields rest = plain kinds.CloseRound ∷ rest
completion_before syms.MoreFields rest = plain kinds.CloseRound ∷ rest
completion_before syms.OtherFields rest = rest
completion_before syms.MethodTail rest = braces_then rest
completion_before syms.Body rest = braces_then rest
completion_before syms.WholeType rest = name_token some_name ∷ rest
completion_before syms.ArrayLength rest = plain kinds.OpenSquare ∷ zero_then (plain kinds.CloseSquare ∷ rest)
completion_before syms.BaseName rest = name_token some_name ∷ rest
completion_before syms.BoundsPart rest = rest
completion_before syms.Low rest = plain kinds.DotsEquals ∷ zero_then (plain kinds.CloseSquare ∷ rest)
completion_before syms.Vars rest = plain kinds.CloseCurly ∷ rest
completion_before syms.MoreVars rest = plain kinds.CloseCurly ∷ rest
completion_before syms.Block rest = braces_then rest
completion_before syms.Items rest = plain kinds.CloseCurly ∷ rest
completion_before syms.MoreItems rest = plain kinds.CloseCurly ∷ rest
completion_before syms.PathStmt rest = plain kinds.Equals ∷ zero_then rest
completion_before syms.ThisStmt rest = plain kinds.Equals ∷ zero_then rest
completion_before syms.TargetStmt rest = plain kinds.Equals ∷ zero_then rest
completion_before syms.Call rest = name_token some_name ∷ plain kinds.Dot ∷ name_token some_name ∷ plain kinds.Exclamation ∷ parentheses_then rest
completion_before syms.CallThis rest = plain kinds.Exclamation ∷ parentheses_then rest
completion_before syms.CallMark rest = plain kinds.Exclamation ∷ parentheses_then rest
completion_before syms.Else rest = rest
completion_before syms.ElseTail rest = braces_then rest
completion_before syms.WhileHead rest = zero_then (braces_then rest)
completion_before syms.LabelHead rest = name_token some_name ∷ zero_then (braces_then (plain kinds.Endwhile ∷ plain kinds.Dot ∷ name_token some_name ∷ rest))
completion_before syms.Clauses rest = braces_then rest
completion_before syms.ClauseTail rest = braces_then rest
completion_before syms.EndPart rest = rest
completion_before (syms.EndLabel label) rest = plain kinds.Endwhile ∷ plain kinds.Dot ∷ plain (kinds.Name label) ∷ rest
completion_before (syms.Label label) rest = plain (kinds.Name label) ∷ rest
completion_before syms.LabelPart rest = rest
completion_before syms.Result rest = rest
completion_before syms.Via rest = rest
completion_before syms.Expr rest = zero_then rest
completion_before syms.Rest rest = rest
completion_before (syms.Links op) rest = rest
completion_before syms.End rest = rest
completion_before syms.Operand rest = zero_then rest
completion_before syms.Atom rest = zero_then rest
completion_before syms.PathAtom rest = rest
completion_before syms.ThisAtom rest = rest
completion_before syms.Cut rest = zero_then (plain kinds.CloseSquare ∷ rest)
completion_before syms.CutTail rest = plain kinds.CloseSquare ∷ rest
completion_before syms.CutEnd rest = plain kinds.CloseSquare ∷ rest
completion_before syms.CallOpen rest = parentheses_then rest
completion_before syms.GivensOpen rest = parentheses_then rest
completion_before syms.Givens rest = plain kinds.CloseRound ∷ rest
completion_before syms.MoreGivens rest = plain kinds.CloseRound ∷ rest
completion_before syms.AName rest = name_token some_name ∷ rest
completion_before syms.AText rest = text_token some_name ∷ rest
completion_before syms.ADot rest = plain kinds.Dot ∷ rest
completion_before syms.AColon rest = plain kinds.Colon ∷ rest
completion_before syms.ASemicolon rest = plain kinds.Semicolon ∷ rest
completion_before syms.AnEquals rest = plain kinds.Equals ∷ rest
completion_before syms.AQuestion rest = plain kinds.Question ∷ rest
completion_before syms.ADotsEquals rest = plain kinds.DotsEquals ∷ rest
completion_before syms.RightRound rest = plain kinds.CloseRound ∷ rest
completion_before syms.RightSquare rest = plain kinds.CloseSquare ∷ rest

-- The completions of all that is open, from the innermost outwards.
abbrev pub completions : List Sym → List Token → List Token
completions [] rest = rest
completions (s ∷ k) rest = completion_before s (completions k rest)
