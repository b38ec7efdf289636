-- The ranges of the number types at their ends, and numbers modulo 2 ^ width.
use Rattle.std.specs.Prelude.{◌≡◌, true, false, pos, negsuc, refl}
use Rattle.ddl_types.specs.declared.num.NumType.TheVariants as Ty
use Rattle.ddl_types.specs.Num.{in_range, modulo_width}

uint_8_ends : (in_range (Ty.Uint 8) (pos 255) ≡ true) × (in_range (Ty.Uint 8) (pos 256) ≡ false) × (in_range (Ty.Uint 8) (negsuc 0) ≡ false)
uint_8_ends = (refl, refl, refl)

sint_8_ends : (in_range (Ty.Sint 8) (pos 127) ≡ true) × (in_range (Ty.Sint 8) (pos 128) ≡ false) × (in_range (Ty.Sint 8) (negsuc 127) ≡ true)
    × (in_range (Ty.Sint 8) (negsuc 128) ≡ false)
sint_8_ends = (refl, refl, refl, refl)

sint_1_ends : (in_range (Ty.Sint 1) (pos 0) ≡ true) × (in_range (Ty.Sint 1) (pos 1) ≡ false) × (in_range (Ty.Sint 1) (negsuc 0) ≡ true)
sint_1_ends = (refl, refl, refl)

int_ends : (in_range Ty.Int (pos 170141183460469231731687303715884105727) ≡ true) × (in_range Ty.Int (pos 170141183460469231731687303715884105728) ≡ false)
int_ends = (refl, refl)

cut_to_uint_8 : (modulo_width (Ty.Uint 8) (pos 300) ≡ pos 44) × (modulo_width (Ty.Uint 8) (negsuc 0) ≡ pos 255)
cut_to_uint_8 = (refl, refl)

cut_to_sint_8 : (modulo_width (Ty.Sint 8) (pos 200) ≡ negsuc 55) × (modulo_width (Ty.Sint 8) (pos 127) ≡ pos 127)
    × (modulo_width (Ty.Sint 8) (negsuc 128) ≡ pos 127)
cut_to_sint_8 = (refl, refl, refl)
