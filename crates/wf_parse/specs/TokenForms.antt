-- What spelling gives every token that the grammar reads.
use Rattle.std.specs.Prelude.{◌≡◌, ◌^◌, Bool, true, Some, List, nat_lt}
use Rattle.std.specs.List.{AllByRecursion}
use Rattle.wf_ast.specs.OperatorForms.{repeats, updates}
use Rattle.wf_parse_grammar.specs.declared.tokens.Kind.{Kind}
use Rattle.wf_parse_grammar.specs.declared.tokens.Kind.TheVariants as kinds
use Rattle.wf_parse_grammar.specs.declared.tokens.Token.{Token}

-- A number has 64 bits, an operator of chains may stand in a row, and the operator before an `=` gives a number.
abbrev pub formed_kind : Kind → Bool
formed_kind (kinds.Number value) = nat_lt value (2 ^ 64)
formed_kind (kinds.Chain op) = repeats op
formed_kind (kinds.Update op) = updates (Some op)
formed_kind kind = true

abbrev pub AreFormed : List Token → Type 0
AreFormed tokens = AllByRecursion (λ t. formed_kind t.kind ≡ true) tokens
