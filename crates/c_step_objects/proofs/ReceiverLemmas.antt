-- The objects of receivers, one after the other.
use Rattle.std.proofs.Common.{◌≡◌, ℕ, false, Option, Some, None, sym}
use Rattle.std.specs.Prelude.{unwrap_or, option_map}
use Rattle.std.specs.Option.{option_map_or}
use Rattle.wf_text.specs.Surface.{Surface, PublicStruct}
use Rattle.wf_text.specs.HostActions.{Receiver}
use Rattle.wf_base.specs.LawfulActions.{struct_numbered}
use Rattle.c_meaning.specs.CCall.{Program}
use Rattle.c_meaning.specs.CRun.{no_fields, struct_objects, struct_name, receiver_objects}
use Rattle.c_step_objects.specs.Shapes.{struct_number, objects_of}
use Rattle.c_step_objects.specs.Types.{type_name, numbered_type}
use Rattle.c_step_objects.proofs.ShapeLemmas.{name_is, objects_none}

-- The struct of a receiver, by the number of its type.
pub receiver_is : (p : Program) (surface : Surface) (receiver : Receiver) (from k : ℕ) → receiver.null ≡ false → k ≡ unwrap_or (numbered_type (struct_number p.structs) surface.package_name surface.structs receiver.struct_number) 0 → receiver_objects p surface receiver from ≡ objects_of p.structs k from
receiver_is p surface receiver from k some is = rw (some, is) (by (struct_numbered surface receiver.struct_number))
  where
    by : (o : Option PublicStruct) → option_map_or (λ it. struct_objects p.structs (struct_name surface it) from) o no_fields ≡ objects_of p.structs (unwrap_or (option_map (λ it. struct_number p.structs (type_name surface.package_name it.name)) o) 0) from
    by None = sym (objects_none p.structs from)
    by (Some it) = name_is p.structs (struct_name surface it) from
