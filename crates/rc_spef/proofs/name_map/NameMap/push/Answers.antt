use Rattle.std.proofs.Common.{ℕ, List, ◌+◌, ap, sym, ◌∙◌, arith, subst}
use Rattle.std.specs.Str.Parse.{digits_value}
use Rattle.rc_spef.specs.References.{is_in_map}
use Rattle.rc_spef.proofs.Digits.{IsShort, any_listed, kept_more}
use Rattle.rc_spef.proofs.name_map.NameMap.push.Goals as goal

pub put-requires : goal.put-requires
put-requires c =
    let short = subst IsShort (sym c.in_ok-from.ensures.copy) (record { digits = c.without_zeros.ensures.digits; front = c.without_zeros.ensures.front }) in
    any_listed c.in_ok-from.field-0 (digits_value 10 c.args.digits.now) c.self.inside.numbers short (ap (digits_value 10) c.in_ok-from.ensures.copy ∙ c.without_zeros.ensures.value) c.self.invariant.0
    ∙ ap (λ (ns : List ℕ). is_in_map ns (digits_value 10 c.args.digits.now)) c.self.view_is
    ∙ c.requires.absent

pub invariant_of-self-2 : goal.invariant_of-self-2
invariant_of-self-2 c =
    let short = subst IsShort (sym c.in_ok-from.ensures.copy) (record { digits = c.without_zeros.ensures.digits; front = c.without_zeros.ensures.front }) in
    kept_more c.self.inside.counted c.goes_on-counted.result c.self.inside.numbers c.put.new.self c.in_ok-from.field-0 (digits_value 10 c.args.digits.now) c.self.invariant short (ap (digits_value 10) c.in_ok-from.ensures.copy ∙ c.without_zeros.ensures.value) c.in_ok-put.ensures.ok (omega (arith, c.if-len-ge4294967294.false, c.len-len.ensures)) (λ counts. let g = c.goes_on-counted.ensures counts in (g.0, g.1 ∙ ap (λ n. n + 1) c.len-len.ensures))
