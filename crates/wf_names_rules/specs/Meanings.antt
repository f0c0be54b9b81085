-- What the uses of names stand for, by what is known at their place.
use Rattle.std.specs.Prelude.{ℕ, Bool, true, false, not, ◌&&◌, if◌then◌else◌, List, [], ◌∷◌, map, Option, Some, None, slice_get, is_some, nat_eq, codes, option_map}
use Rattle.std.specs.List.{list_any, list_all}
use Rattle.std.specs.Str.{bytes_eq}
use Rattle.indexmap.specs.IndexSet.{insert_all}
use Rattle.wf_base.specs.declared.widths.Width.{Width}
use Rattle.wf_base.specs.declared.widths.Width.TheVariants as widths
use Rattle.wf_base.specs.declared.base_methods.Kind.TheVariants as kinds
use Rattle.wf_base.specs.declared.base_methods.BaseSig.{BaseSig}
use Rattle.wf_base.specs.BaseTable as table
use Rattle.wf_ast.specs.declared.parsed.Name.{Name}
use Rattle.wf_ast.specs.declared.parsed.Path.{Path}
use Rattle.wf_ast.specs.declared.parsed.Root.{Root}
use Rattle.wf_ast.specs.declared.parsed.Root.TheVariants as roots
use Rattle.wf_ast.specs.declared.parsed.Receiver.{Receiver}
use Rattle.wf_ast.specs.declared.parsed.Receiver.TheVariants as receivers
use Rattle.wf_ast.specs.ParsedTree as tree
use Rattle.wf_ast.specs.ParsedTree.{ExprTree, GivenTrees, CallTree, TypeTree}
use Rattle.wf_names_rules.specs.declared.callees.Callee.{Callee}
use Rattle.wf_names_rules.specs.declared.callees.Callee.TheVariants as callees
use Rattle.wf_names_rules.specs.declared.sorts.Sort.{Sort}
use Rattle.wf_names_rules.specs.declared.sorts.Sort.TheVariants as sorts
use Rattle.wf_names_rules.specs.Declarations.{Variable, Method, Declared, is_spelt, text_of, status_named, struct_named, method_named, variable_named, fields_of}
use Rattle.wf_names_rules.specs.Uses.{Use, own_status, base_status, variable, structure, method, Scope, given_uses}

-- The statuses of the language, as they are written after `base.`.
abbrev pub base_status_texts : List (List ℕ)
base_status_texts =
    codes "$short read" ∷ codes "$short write" ∷ codes "@end of data" ∷ codes "#bad receiver" ∷ codes "#bad argument"
    ∷ codes "#initialize not called" ∷ codes "#interleaved coroutine calls" ∷ codes "#disabled by previous error"
    ∷ codes "#cannot return a suspension" ∷ []

abbrev pub is_base_status : List ℕ → Bool
is_base_status text = list_any (λ status. bytes_eq status text) base_status_texts

-- The width of a numeric type by its name after `base.`.
abbrev pub width_named : List ℕ → Option Width
width_named name =
    if bytes_eq name (codes "u8") then Some widths.W8
    else if bytes_eq name (codes "u16") then Some widths.W16
    else if bytes_eq name (codes "u32") then Some widths.W32
    else if bytes_eq name (codes "u64") then Some widths.W64
    else None

-- The width of a type that is numeric, refined or not; `bytes` are those of each text.
abbrev pub width_of : (bytes : ℕ → List ℕ) → TypeTree → Option Width
width_of bytes (tree.base_type name at bounds) = width_named (bytes name.text.0)
width_of bytes _ = None

-- What may be called on a type of this name after `base.`.
abbrev pub sort_named : List ℕ → Sort
sort_named name =
    if bytes_eq name (codes "io_reader") then sorts.Methods kinds.Reader
    else if bytes_eq name (codes "io_writer") then sorts.Methods kinds.Writer
    else sorts.Plain

abbrev pub slice_sort : Option Width → Sort
slice_sort None = sorts.Plain
slice_sort (Some width) = sorts.Methods (kinds.Slice width)

abbrev pub array_sort : Option Width → Sort
array_sort None = sorts.Plain
array_sort (Some width) = sorts.Methods (kinds.Array width)

-- What may be called on values of a type.
abbrev pub sort_of : (bytes : ℕ → List ℕ) → TypeTree → Sort
sort_of bytes (tree.slice_of at element) = slice_sort (width_of bytes element)
sort_of bytes (tree.array_of length at element) = array_sort (width_of bytes element)
sort_of bytes (tree.base_type name at bounds) = sort_named (bytes name.text.0)
sort_of bytes (tree.status_type at bounds) = sorts.Methods kinds.Status
sort_of bytes (tree.struct_type name) = sorts.Struct name.text

-- What is known at a place; names stand by their texts, and methods by their numbers.
pub record Known : Type 0 where
  -- the bytes of a text
  pub bytes : ℕ → List ℕ
  pub is_status : ℕ → Bool
  pub is_struct : ℕ → Bool
  -- what may be called on the local, the constant, the field of the struct of `this`, the argument of this name
  pub local : ℕ → Option Sort
  pub constant : ℕ → Option Sort
  pub field : ℕ → Option Sort
  pub arg : ℕ → Option Sort
  -- the method of the struct of `this`, and of the struct with the name `owner`
  pub own_method : ℕ → Option ℕ
  pub struct_method : (owner : ℕ) → ℕ → Option ℕ
  -- whether any struct has a method of this name
  pub is_method : ℕ → Bool
  pub is_public : (m : ℕ) → Bool
  -- the names of a method's arguments, each once
  pub args : (m : ℕ) → List ℕ

abbrev pub sort_in : Declared → List Variable → ℕ → Option Sort
sort_in d variables text = option_map (λ v. sort_of (text_of d) v.of) (variable_named variables text)

abbrev pub fields_known : Declared → Option ℕ → List Variable
fields_known d None = []
fields_known d (Some owner) = fields_of d owner

abbrev pub method_known : Declared → Option ℕ → ℕ → Option ℕ
method_known d None text = None
method_known d (Some owner) text = method_named d owner text

abbrev pub public_in : Option Method → Bool
public_in None = false
public_in (Some m) = m.public

-- The names of variables by their texts, each once, in the order in which they are declared first.
abbrev pub names_once : List Variable → List ℕ
names_once variables = insert_all nat_eq [] (map (λ v. v.name.text.0) variables)

abbrev pub args_in : Option Method → List ℕ
args_in None = []
args_in (Some m) = names_once m.args

-- What is known in a scope of a package.
abbrev pub known_at : Declared → Scope → Known
known_at d scope = record {
  bytes = text_of d;
  is_status = λ text. is_some (status_named d text);
  is_struct = λ text. is_some (struct_named d text);
  local = sort_in d scope.locals;
  constant = sort_in d scope.constants;
  field = sort_in d (fields_known d scope.this);
  arg = sort_in d scope.args;
  own_method = method_known d scope.this;
  struct_method = method_named d;
  is_method = λ text. list_any (λ m. is_spelt text m.name) d.methods;
  is_public = λ m. public_in (slice_get d.methods m);
  args = λ m. args_in (slice_get d.methods m);
}

-- A bare name is a local, else a constant.
abbrev pub or_sort : Option Sort → Option Sort → Option Sort
or_sort (Some s) other = Some s
or_sort None other = other

-- What may be called on what a name stands for after nothing, after `this.` and after `args.`.
abbrev pub sort_at : Known → Root → ℕ → Option Sort
sort_at k roots.Bare text = or_sort (k.local text) (k.constant text)
sort_at k roots.This text = k.field text
sort_at k roots.Args text = k.arg text

abbrev pub path_sort : Known → Path → Option Sort
path_sort k path = sort_at k path.root path.name.text.0

-- What a call's method name stands for.
abbrev pub this_callee : Option ℕ → (elsewhere : Bool) → Callee
this_callee (Some m) elsewhere = callees.Own m
this_callee None true = callees.Foreign
this_callee None false = callees.Missing

abbrev pub public_callee : Known → Option ℕ → Callee
public_callee k None = callees.Missing
public_callee k (Some m) = if k.is_public m then callees.Own m else callees.Hidden m

-- A method through a field whose type is the struct with this name.
abbrev pub struct_callee : Known → (owner text : ℕ) → Callee
struct_callee k owner text = if k.is_struct owner then public_callee k (k.struct_method owner text) else callees.Baseless

abbrev pub found_base : Option BaseSig → Callee
found_base None = callees.Missing
found_base (Some sig) = callees.Base sig

-- Only a field has methods of its struct.
abbrev pub part_callee : Known → Root → (owner text : ℕ) → Callee
part_callee k roots.This owner text = struct_callee k owner text
part_callee k _ owner text = callees.Missing

abbrev pub sorted_callee : Known → Root → Option Sort → ℕ → Callee
sorted_callee k root None text = callees.Baseless
sorted_callee k root (Some (sorts.Struct owner)) text = part_callee k root owner.0 text
sorted_callee k root (Some (sorts.Methods kind)) text = found_base (table.method_named kind (k.bytes text))
sorted_callee k root (Some sorts.Plain) text = callees.Missing

abbrev pub callee_on : Known → Receiver → ℕ → Callee
callee_on k (receivers.This at) text = this_callee (k.own_method text) (k.is_method text)
callee_on k (receivers.Path path) text = sorted_callee k path.root (path_sort k path) text

-- Parts of a call.
pub record GivenValue : Type 0 where
  pub name : Name
  pub value : ExprTree

abbrev pub given_values : GivenTrees → List GivenValue
given_values tree.no_given = []
given_values (tree.more_given name value others) = record { name = name; value = value } ∷ given_values others

abbrev pub call_name : CallTree → Name
call_name (tree.call on name mark args) = name

abbrev pub call_args : CallTree → List GivenValue
call_args (tree.call on name mark args) = given_values args

abbrev pub callee_of : Known → CallTree → Callee
callee_of k (tree.call on name mark args) = callee_on k on name.text.0

-- Whether there is such a method.
abbrev pub is_known : Callee → Bool
is_known (callees.Own m) = true
is_known (callees.Hidden m) = true
is_known (callees.Base sig) = true
is_known callees.Foreign = false
is_known callees.Missing = false
is_known callees.Baseless = false

-- Whether a use stands for something.
abbrev pub has_meaning : Known → Use → Bool
has_meaning k (own_status text) = k.is_status text.text.0
has_meaning k (base_status text) = is_base_status (k.bytes text.text.0)
has_meaning k (variable path) = is_some (path_sort k path)
has_meaning k (structure name) = k.is_struct name.text.0
has_meaning k (method c) = is_known (callee_of k c)

-- A call that may break rules of its own: its method has a meaning, and all that its arguments' values use.
abbrev pub values_have_meaning : Known → CallTree → Bool
values_have_meaning k (tree.call on name mark args) = list_all (has_meaning k) (given_uses args)

abbrev pub call_has_meaning : Known → CallTree → Bool
call_has_meaning k c = is_known (callee_of k c) && values_have_meaning k c

-- What the arguments of a callee are called: those of a method by their texts, those of a base method by their bytes.
pub data Parameters : Type 0 where
  of_method : (texts : List ℕ) → Parameters
  of_base : (names : List (List ℕ)) → Parameters

abbrev pub parameters_of : (args : ℕ → List ℕ) → Callee → Parameters
parameters_of args (callees.Own m) = of_method (args m)
parameters_of args (callees.Hidden m) = of_method (args m)
parameters_of args (callees.Base sig) = of_base (map (λ arg. arg.0) (table.row_of sig).args)
parameters_of args _ = of_base []

-- Whether one of them is called so.
abbrev pub is_parameter : (bytes : ℕ → List ℕ) → Parameters → ℕ → Bool
is_parameter bytes (of_method texts) text = list_any (nat_eq text) texts
is_parameter bytes (of_base names) text = list_any (λ name. bytes_eq name (bytes text)) names

-- Whether one of them isn't among the names that are given.
abbrev pub lacks_one : (bytes : ℕ → List ℕ) → Parameters → (given : List ℕ) → Bool
lacks_one bytes (of_method texts) given = list_any (λ text. not (list_any (nat_eq text) given)) texts
lacks_one bytes (of_base names) given = list_any (λ name. not (list_any (λ text. bytes_eq name (bytes text)) given)) names

-- The argument of the calling method that a value is, where it is nothing else.
abbrev pub passed_at : Root → ℕ → Option ℕ
passed_at roots.Args text = Some text
passed_at _ text = None

abbrev pub passed_arg : ExprTree → Option ℕ
passed_arg (tree.path path) = passed_at path.root path.name.text.0
passed_arg _ = None

abbrev pub is_io : Option Sort → Bool
is_io (Some (sorts.Methods kinds.Reader)) = true
is_io (Some (sorts.Methods kinds.Writer)) = true
is_io _ = false

-- Whether the calling method's argument is a reader or a writer.
abbrev pub is_io_arg : (arg : ℕ → Option Sort) → ℕ → Bool
is_io_arg arg text = is_io (arg text)
