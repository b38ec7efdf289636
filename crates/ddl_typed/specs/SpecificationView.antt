-- The specification that a value of the program stands for.
use Rattle.std.specs.Prelude.{map}
use Rattle.ddl_types.specs.CondView.{cond_view}
use Rattle.ddl_types.specs.TyView.{ty_view}
use Rattle.ddl_types.specs.declared.scheme.Scheme.{Scheme}
use Rattle.ddl_typed.specs.declared.expr.TDecl.{TDecl}
use Rattle.ddl_typed.specs.declared.specification.TSpec.{TSpec}
use Rattle.ddl_typed.specs.declared.specification.TDeclaration.{TDeclaration}
use Rattle.ddl_typed.specs.declared.specification.TParam.{TParam}
use Rattle.ddl_typed.specs.declared.specification.TBody.{TBody}
use Rattle.ddl_typed.specs.declared.specification.TBody.TheVariants as B
use Rattle.ddl_typed.specs.declared.specification.PlaceType.{PlaceType}
use Rattle.ddl_typed.specs.declared.specification.BitsDecl.{BitsDecl}
use Rattle.ddl_ops.specs.LayoutView.{layout_view}
use Rattle.ddl_typed.specs.PartView.{class_view}
use Rattle.ddl_typed.specs.Tree.{Decl, of_form}
use Rattle.ddl_typed.specs.View.{view}
use Rattle.ddl_typed.specs.Specification as s

abbrev pub body_view : TBody → s.Standing
body_view (B.Expr e) = s.form (view e)
body_view (B.Class c) = s.class_of (class_view c)
body_view (B.Bits n) = s.bitdata n
body_view (B.Shape n) = s.shape n

abbrev pub scheme_view : Scheme → s.Typing
scheme_view t = record { vars = t.vars; conditions = map cond_view t.conds.items; of = ty_view t.of }

abbrev pub param_view : TParam → s.Parameter
param_view p = record { name = p.name; span = p.span; kind = p.kind; of = ty_view p.of }

abbrev pub declaration_view : TDeclaration → s.Declaration
declaration_view d = record {
  unit = d.unit;
  name = d.name;
  span = d.span;
  kind = d.kind;
  parameters = map param_view d.params.items;
  typing = scheme_view d.scheme;
  standing = body_view d.body;
}

abbrev pub place_view : PlaceType → s.Place
place_view p = record { span = p.span; vars = p.vars; tagged = p.tagged; names = p.names.items; types = map ty_view p.types.items }

abbrev pub bits_view : BitsDecl → s.Bitdata
bits_view b = record { unit = b.unit; name = b.name; span = b.span; layout = layout_view b.layout.layout }

abbrev pub specification_view : TSpec → s.Specification
specification_view t = record {
  language = t.language;
  units = t.units.items;
  texts = t.texts.items;
  declarations = map declaration_view t.decls.items;
  places = map place_view t.places.items;
  bitdata = map bits_view t.bits.items;
}

-- a declaration of a form alone
abbrev pub decl_view : TDecl → Decl
decl_view d = record { name = d.span; body = of_form (view d.body) }
