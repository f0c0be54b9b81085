-- Which cells fit a place.
use Rattle.std.proofs.Common.{◌≡◌, ◌<◌, List, Option, Some, None, ap, subst, arith}
use Rattle.std.specs.Prelude.{ℤ, pos, negsuc, slice_get, option_map, option_and_then, IfSome}
use Rattle.c_meaning.specs.declared.cells.CellType.{CellType}
use Rattle.c_meaning.specs.declared.cells.CellType.TheVariants.{U8 as u8, U16 as u16, U32 as u32, U64 as u64, Flag as flag, Pointer as pointer}
use Rattle.c_meaning.specs.declared.cells.Cell.{Cell}
use Rattle.c_meaning.specs.declared.cells.Cell.TheVariants.{Num as num}
use Rattle.c_meaning.specs.declared.values.Pointer.{Pointer}
use Rattle.c_meaning.specs.declared.values.CValue.{CValue}
use Rattle.c_meaning.specs.declared.values.CValue.TheVariants.{Numeric as numeric, Address as address, NullPointer as null_pointer}
use Rattle.wf_num.specs.CArithmetic.{modulo}
use Rattle.c_meaning.specs.CValues.{whole}
use Rattle.c_meaning.specs.CMemory.{Field, cells, part, Memory, cell_of, cell_at, field_at, cells_of}
use Rattle.c_mem.specs.FieldParts.{Fits, FitsField, FitsPlace}

-- A value that was converted to a type.
pub converted_fits : (type : CellType) (v : CValue) (cell : Cell) → cell_of type v ≡ Some cell → Fits type cell
converted_fits u8 (numeric n) cell e =
    let s : num (modulo (whole n) 256) ≡ cell = cc (e) in
    subst (λ (c : Cell). Fits u8 c) s (below (whole n))
  where
    below : (z : ℤ) → modulo z 256 < 256
    below (pos k) = omega arith
    below (negsuc k) = omega arith
converted_fits u8 (address p) cell e = absurd (cc (e))
converted_fits u8 null_pointer cell e = absurd (cc (e))
converted_fits u16 v cell e = tt
converted_fits u32 v cell e = tt
converted_fits u64 v cell e = tt
converted_fits flag v cell e = tt
converted_fits pointer v cell e = tt

-- A place where a cell of a type is found.
pub place_fits : (memory : Memory) (p : Pointer) (type : CellType) (was cell : Cell) → cell_at memory p ≡ Some (type, was) → Fits type cell → FitsPlace memory p cell
place_fits memory p type was cell e h = by_field (field_at memory p.object p.field) e
  where
    tagged : CellType → Cell → CellType × Cell
    tagged t c = (t, c)

    same : (other : CellType) (found : Option Cell) → option_map (tagged other) found ≡ Some (type, was) → Fits other cell
    same other None k = absurd (cc (k))
    same other (Some c) k = let q : (type, was) ≡ tagged other c = cc (k) in let s : type ≡ other = ap (λ (x : CellType × Cell). x.0) q in subst (λ (t : CellType). Fits t cell) s h

    by_field : (found : Option Field) → option_and_then (λ (it : CellType × List Cell). option_map (tagged it.0) (slice_get it.1 p.index)) (option_and_then cells_of found) ≡ Some (type, was) → IfSome found (λ it. FitsField it cell)
    by_field None k = tt
    by_field (Some (part object)) k = tt
    by_field (Some (cells other them)) k = same other (slice_get them p.index) k
