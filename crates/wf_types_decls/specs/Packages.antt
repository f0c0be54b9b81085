-- The first refusal of the parts of a package with what stands round each, and what a walk over it keeps.
use Rattle.std.specs.Prelude.{◌≡◌, ℕ, Bool, false, ◌&&◌, ◌||◌, List, [], ◌∷◌, ◌++◌, map, Option, None, Some, nat_eq}
use Rattle.std.specs.List.{flat_map}
use Rattle.wf_text.specs.declared.rules.Refusal.{Refusal}
use Rattle.wf_text.specs.declared.rules.Rule.TheVariants.{T1, T5}
use Rattle.wf_text.specs.Precedence.{sooner, soonest, Decides, told}
use Rattle.wf_ast.specs.declared.types.Ty.{Ty}
use Rattle.wf_named.specs.NamedTree.{NamedMethodTree, NamedPackageTree}
use Rattle.wf_types_rules.specs.declared.meanings.PlacedMeaning.{PlacedMeaning}
use Rattle.wf_types_rules.specs.declared.settings.Role.TheVariants as roles
use Rattle.wf_types_rules.specs.declared.settings.Setting.{Setting}
use Rattle.wf_types_rules.specs.DeclaredTypes.{constants_of, types_in, result_in, method_type, status_texts, in_method}
use Rattle.wf_types_rules.specs.Judgements.{no_constant, lies_outside}
use Rattle.wf_types_rules.specs.Parts.{Part, Site, variables_parts, result_parts, whole_body, block_parts, at_sites}
use Rattle.wf_types_rules.specs.FirstBreak.{refusals_of, deciding}
use Rattle.wf_types_rules.specs.TypeRules.{Breaks}
use Rattle.wf_types_decls.specs.declared.heads.Head.{Head}
use Rattle.wf_types_decls.specs.declared.packages.Judged.{Judged}

-- The first refusal of what was found before and of all that the rules say of these parts.
unfoldable pub decided : Option Refusal → List Site → Option Refusal
decided found sites = soonest found (flat_map refusals_of sites)

-- What stands round every method of a package.
pub record IsAround (p : NamedPackageTree) (s : Setting) : Type 0 where
  pub constants : s.constants ≡ constants_of p
  pub methods : s.methods ≡ map (method_type p) p.methods
  pub statuses : s.statuses ≡ status_texts p

-- The types of all fields, by struct.
abbrev pub field_types : NamedPackageTree → List (List (Option Ty))
field_types p = map (λ x. types_in p roles.Field x.fields) p.structs

-- What a method declares, as parts of its package, and the types of that, by method.
abbrev pub head_parts : NamedMethodTree → List Part
head_parts m = variables_parts roles.Arg m.args ++ (variables_parts roles.Local m.locals ++ result_parts m.mark m.gives)

abbrev pub head_of : NamedPackageTree → NamedMethodTree → Head
head_of p m = record { args = types_in p roles.Arg m.args; locals = types_in p roles.Local m.locals; gives = result_in p m }

abbrev pub heads_of : NamedPackageTree → List Head
heads_of p = map (head_of p) p.methods

-- The parts of a method's body.
abbrev pub body_sites : NamedPackageTree → NamedMethodTree → List Site
body_sites p m = at_sites (in_method p m) (whole_body m.body ∷ block_parts m.body)

-- What is known of a package that was judged.
pub record IsJudged (p : NamedPackageTree) (j : Judged) : Type 0 where
  pub decides : Decides (Breaks p) j.refusal
  pub computed : j.refusal ≡ deciding p
  pub fields : j.fields ≡ field_types p
  pub heads : j.heads ≡ heads_of p
  pub around : IsAround p j.around

abbrev pub types_or_none : Option (List (Option Ty)) → List (Option Ty)
types_or_none None = []
types_or_none (Some types) = types

-- What the value of a constant of this type breaks.
abbrev pub constant_found : Option Ty → PlacedMeaning → Option Refusal → Option Refusal
constant_found ty v found = sooner (sooner found (told T1 (no_constant v))) (told T5 (lies_outside ty v))

-- Two `?` in a row, of byte 63, where the byte before it is one or isn't.
abbrev pub questions_behind : (before : Bool) → List ℕ → Bool
questions_behind before [] = false
questions_behind before (b ∷ bs) = (before && nat_eq b 63) || questions_behind (nat_eq b 63) bs
