use Rattle.std.proofs.Common.{◌∙◌, ap, sym, refl, arith}
use Rattle.std.proofs.lemmas.Option.{slice_get_past, slice_get_read}
use Rattle.std.specs.Prelude.{length}
use Rattle.std.specs.Str.{bytes_eq}
use Rattle.rc_keys.proofs.Standing.{numbered, lookup_is}
use Rattle.rc_keys.proofs.keywords.find_key.Goals as goal

pub returns-in_default : goal.returns-in_default
returns-in_default g c = sym (lookup_is (bytes_eq c.args.word.now) c.args.table.now c.args.keys.now ∙ ap (numbered c.args.keys.now) (sym c.find.ensures.place ∙ c.in_default.is))

pub returns-then-place-keys : goal.returns-then-place-keys
returns-then-place-keys g c =
    sym (lookup_is (bytes_eq c.args.word.now) c.args.table.now c.args.keys.now ∙ ap (numbered c.args.keys.now) (sym c.find.ensures.place ∙ c.in-Some.is) ∙ slice_get_past c.args.keys.now c.in-Some.place c.if-place-keys.true)

pub returns : goal.returns
returns g c =
    sym (lookup_is (bytes_eq c.args.word.now) c.args.table.now c.args.keys.now ∙ ap (numbered c.args.keys.now) (sym c.find.ensures.place ∙ c.in-Some.is)
    ∙ slice_get_read c.args.keys.now (length c.args.keys.now) c.in-Some.place c.index-keys-place.result refl (omega (arith, c.if-place-keys.false)) c.index-keys-place.is)
