-- A typed package as mathematical data, and what a host sees of it.
use Rattle.std.specs.Prelude.{ℕ, suc, Bool, Option, None, Some, List, [], ◌∷◌, map, if◌then◌else◌, nat_eq, ◌&&◌}
use Rattle.wf_text.specs.Surface.{Surface, PublicStruct, PublicMethod, ArgKind, number, flag, reader, writer, slice, AnswerKind}
use Rattle.wf_text.specs.Surface as surface
use Rattle.wf_base.specs.declared.marks.Mark.{Mark}
use Rattle.wf_base.specs.declared.marks.Mark.TheVariants.{Pure, Impure, Coroutine}
use Rattle.wf_base.specs.BaseTable.{bits_of}
use Rattle.wf_ast.specs.declared.types.Ty.{Ty}
use Rattle.wf_ast.specs.declared.types.Ty.TheVariants as types
use Rattle.wf_ast.specs.declared.declarations.Var.{Var}
use Rattle.wf_ast.specs.declared.declarations.Method.{Method}
use Rattle.wf_ast.specs.declared.declarations.Struct.{Struct}
use Rattle.wf_ast.specs.declared.typed_code.Block as typed_code
use Rattle.wf_ast.specs.declared.typed_nodes.TypedNodes.{TypedNodes}
use Rattle.wf_ast.specs.TypedTree.{Block}
use Rattle.wf_ast.specs.TypedTrees.{text_of, block_of}

-- A variable: its name and its type.
pub record Variable : Type 0 where
  pub name : List ℕ
  pub ty : Ty

pub record StructTree : Type 0 where
  pub name : List ℕ
  pub public : Bool
  pub fields : List Variable

-- A method of the struct with the number `of`.
pub record MethodTree : Type 0 where
  pub name : List ℕ
  pub of : ℕ
  pub public : Bool
  pub mark : Mark
  pub args : List Variable
  pub locals : List Variable
  pub gives : Option Ty
  pub body : Block

-- Structs, methods and statuses have their places in these lists as their numbers. `statuses` has the texts that a
-- caller sees. `order` has the numbers of all methods, each after those that it calls, and `struct_order` those of all
-- structs, each after those that its fields hold.
pub record PackageTree : Type 0 where
  pub package_name : List ℕ
  pub statuses : List (List ℕ)
  pub structs : List StructTree
  pub methods : List MethodTree
  pub order : List ℕ
  pub struct_order : List ℕ

abbrev pub variable_of : TypedNodes → Var → Variable
variable_of nodes x = record { name = text_of nodes x.name; ty = x.ty }

abbrev pub struct_of : TypedNodes → Struct → StructTree
struct_of nodes s = record { name = text_of nodes s.name; public = s.public; fields = map (variable_of nodes) s.fields }

abbrev pub method_of : TypedNodes → Method → typed_code.Block → MethodTree
method_of nodes m body =
    record { name = text_of nodes m.name; of = m.of.0; public = m.public; mark = m.mark; args = map (variable_of nodes) m.args; locals = map (variable_of nodes) m.locals; gives = m.gives; body = block_of nodes body }

-- Methods with their bodies.
abbrev pub methods_of : TypedNodes → List Method → List typed_code.Block → List MethodTree
methods_of nodes [] bodies = []
methods_of nodes (m ∷ ms) [] = []
methods_of nodes (m ∷ ms) (body ∷ bodies) = method_of nodes m body ∷ methods_of nodes ms bodies

-- The package that these nodes make.
unfoldable pub package_of : TypedNodes → PackageTree
package_of nodes =
    record { package_name = nodes.package; statuses = nodes.statuses; structs = map (struct_of nodes) nodes.structs; methods = methods_of nodes nodes.methods nodes.bodies; order = nodes.order; struct_order = nodes.struct_order }

-- What a host knows of an argument, and of an answer. A coroutine answers a status.
abbrev pub kind_of : Ty → ArgKind
kind_of (types.Num width lo hi) = number (bits_of width)
kind_of types.Flag = flag
kind_of types.Reader = reader
kind_of types.Writer = writer
kind_of (types.Slice width) = slice (bits_of width)
kind_of ty = flag

abbrev pub answer_kind : Option Ty → AnswerKind
answer_kind None = surface.nothing
answer_kind (Some (types.Num width lo hi)) = surface.numeric (bits_of width)
answer_kind (Some types.Flag) = surface.truth
answer_kind (Some ty) = surface.status

abbrev pub answers_of : Mark → Option Ty → AnswerKind
answers_of Coroutine gives = surface.status
answers_of Pure gives = answer_kind gives
answers_of Impure gives = answer_kind gives

abbrev pub public_method : ℕ → MethodTree → PublicMethod
public_method n m = record { number = n; name = m.name; args = map (λ x. record { name = x.name; kind = kind_of x.ty }) m.args; answers = answers_of m.mark m.gives }

-- The public methods of the struct with the number `s`, `n` being the number of the first method in the list.
abbrev pub public_methods : (s n : ℕ) → List MethodTree → List PublicMethod
public_methods s n [] = []
public_methods s n (m ∷ ms) = if m.public && nat_eq m.of s then public_method n m ∷ public_methods s (suc n) ms else public_methods s (suc n) ms

-- The public structs, `n` being the number of the first one in the list.
abbrev pub public_structs : List MethodTree → (n : ℕ) → List StructTree → List PublicStruct
public_structs methods n [] = []
public_structs methods n (s ∷ ss) =
    if s.public then record { number = n; name = s.name; methods = public_methods n 0 methods } ∷ public_structs methods (suc n) ss else public_structs methods (suc n) ss

-- A package's public surface.
unfoldable pub surface_of : PackageTree → Surface
surface_of p = record { package_name = p.package_name; statuses = p.statuses; structs = public_structs p.methods 0 p.structs }
