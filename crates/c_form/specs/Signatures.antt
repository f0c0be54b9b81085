-- The functions that a package asks of a text, by the parts that are asked for.
use Rattle.std.specs.Prelude.{◌≡◌, ◌≤◌, ℕ, Bool, false, ◌&&◌, List, [], ◌∷◌, ◌++◌, map, drop, length, Option, Some, None, bytes_eq, codes}
use Rattle.wf_text.specs.Surface.{PublicArg, PublicMethod, AnswerKind, status}
use Rattle.wf_bufs.specs.SurfaceViews.{answer_kind_of}
use Rattle.c_text.specs.declared.nodes.CParam.{CParam}
use Rattle.c_text.specs.CTree.{TypeTree, uint, size, boolean, uint_pointer, struct_pointer, text, ParamTree}
use Rattle.c_text.specs.CNodes.{Nodes, param_tree}
use Rattle.c_meaning.specs.CTypes.{same_type}
use Rattle.c_meaning.specs.UnitForm.{Signature, param, arg_params, args_params, answer_type, same_params}
use Rattle.c_form.specs.declared.signatures.Wanted.{Wanted}
use Rattle.c_form.specs.declared.signatures.Wanted.TheVariants as wanted
use Rattle.c_form.specs.declared.signatures.Asked.{Asked}

-- The type that is asked for.
abbrev pub wanted_type : Wanted → TypeTree
wanted_type (wanted.Uint u) = uint u
wanted_type wanted.Size = size
wanted_type wanted.Bool = boolean
wanted_type (wanted.UintPointer u) = uint_pointer u
wanted_type (wanted.Struct name) = struct_pointer name.now
wanted_type wanted.Text = text

-- The first of these parameters is this one.
abbrev pub first_is : ParamTree → List ParamTree → Bool
first_is p [] = false
first_is p (q ∷ qs) = same_type p.kind q.kind && bytes_eq p.name q.name

-- The parameters of an argument stand from `at` on, and others after them.
abbrev pub TakesArg : Nodes → List CParam → (at : ℕ) → PublicArg → Option ℕ → Type 0
TakesArg nodes params at arg None = (more : List ParamTree) → same_params (arg_params arg ++ more) (map (param_tree nodes.names) (drop at params)) ≡ false
TakesArg nodes params at arg (Some next) = (next ≤ length params) × ((more : List ParamTree) → same_params (arg_params arg ++ more) (map (param_tree nodes.names) (drop at params)) ≡ same_params more (map (param_tree nodes.names) (drop next params)))

-- The same of one parameter.
abbrev pub TakesOne : Nodes → List CParam → (at : ℕ) → ParamTree → Option ℕ → Type 0
TakesOne nodes params at p None = (more : List ParamTree) → same_params (p ∷ more) (map (param_tree nodes.names) (drop at params)) ≡ false
TakesOne nodes params at p (Some next) = (next ≤ length params) × ((more : List ParamTree) → same_params (p ∷ more) (map (param_tree nodes.names) (drop at params)) ≡ same_params more (map (param_tree nodes.names) (drop next params)))

-- The function of this name that takes a struct of that type, these arguments, and answers so.
abbrev pub signature_by : (name of : List ℕ) → List PublicArg → AnswerKind → Signature
signature_by name of args answers = record { name = name; params = param (struct_pointer of) (codes "self") ∷ args_params args; result_type = answer_type answers }

abbrev pub signature_of : (name : List ℕ) → Asked → Signature
signature_of name asked = signature_by name asked.of.now asked.args.now (answer_kind_of asked.answers)

-- The methods of a struct with this type, and the function that initializes it.
abbrev pub method_by : (of : List ℕ) → PublicMethod → Signature
method_by of method = signature_by (of ++ (codes "__" ++ method.name)) of method.args method.answers

abbrev pub initialize_by : (of : List ℕ) → Signature
initialize_by of = signature_by (of ++ (codes "__" ++ codes "initialize")) of [] status
