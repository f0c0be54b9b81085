-- What the rules say of the parts of an expression, a type or a call, and what these mean.
use Rattle.std.specs.Prelude.{◌≡◌, ℕ, List, [], ◌∷◌, ◌++◌, Option, None, Some}
use Rattle.std.specs.List.{flat_map}
use Rattle.wf_text.specs.declared.place.Place.{Place}
use Rattle.wf_text.specs.declared.rules.Refusal.{Refusal}
use Rattle.wf_text.specs.Precedence.{soonest}
use Rattle.wf_named.specs.declared.nodes.NamedCallee.{NamedCallee}
use Rattle.wf_named.specs.NamedTree.{NamedExprTree, path, NamedTypeTree}
use Rattle.wf_types_rules.specs.declared.meanings.Meaning.{Meaning}
use Rattle.wf_types_rules.specs.declared.meanings.Operand.{Operand}
use Rattle.wf_types_rules.specs.declared.meanings.PlacedMeaning.{PlacedMeaning}
use Rattle.wf_types_rules.specs.declared.settings.Setting.{Setting}
use Rattle.wf_types_rules.specs.ExprTypes.{plain_width, written}
use Rattle.wf_types_rules.specs.DeclaredTypes.{first_token}
use Rattle.wf_types_rules.specs.Judgements.{form}
use Rattle.wf_types_rules.specs.Parts.{Part, argument, expr_parts, type_parts}
use Rattle.wf_types_rules.specs.FirstBreak.{refusals_at}
use Rattle.wf_types_exprs.specs.declared.found.WrittenType.{WrittenType}

-- The first refusal of what was found before and of all that the rules say of parts with this setting round them.
unfoldable pub judged : Setting → Option Refusal → List Part → Option Refusal
judged s found parts = soonest found (flat_map (refusals_at s) parts)

-- An argument's parts. A path that is handed on stands as an argument alone.
abbrev pub argument_parts : NamedCallee → (n : ℕ) → NamedExprTree → List Part
argument_parts callee n (path p) = argument callee n (path p) ∷ []
argument_parts callee n e = argument callee n e ∷ expr_parts e

-- Operands after others, where each means something.
abbrev pub operand_pushed : List Operand → Place → Option Meaning → Option (List Operand)
operand_pushed os at (Some m) = Some (os ++ record { at = at; of = m } ∷ [])
operand_pushed os at None = None

abbrev pub operand_behind : Option (List Operand) → PlacedMeaning → Option (List Operand)
operand_behind (Some os) v = operand_pushed os v.at v.of
operand_behind None v = None

abbrev pub operands_joined : Option (List Operand) → Option (List Operand) → Option (List Operand)
operands_joined (Some os) (Some others) = Some (os ++ others)
operands_joined os others = None

-- What is found after what was found before a type, at it and its parts; what type it is, its form, its width where it is a plain number, and its first token.
pub record TellsType (s : Setting) (before after : Option Refusal) (t : NamedTypeTree) (w : WrittenType) : Type 0 where
  pub found : after ≡ judged s before (type_parts t)
  pub of : w.of ≡ written s t
  pub kind : w.kind ≡ form s t
  pub plain : w.plain ≡ plain_width t
  pub at : w.at ≡ first_token t
