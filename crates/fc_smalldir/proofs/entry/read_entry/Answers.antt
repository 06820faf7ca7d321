use Rattle.std.proofs.Common.{◌≡◌, ◌<◌, ℕ, length, take, drop, slice_index, subst, sym, ap, ◌∙◌, arith, length-take-le}
use Rattle.std.proofs.lemmas.List.{take_rest}
use Rattle.byteorder.specs.Endian.{little_number}
use Rattle.fc_dirs.specs.Small.{FitsSmall, small_entry, name_in}
use Rattle.fc_smalldir.specs.Fields.{plain_field, attrs_in, last_in}
use Rattle.fc_smalldir.proofs.ReadLemmas.{name_from_32, fits_read, plain_bytes, take_bytes, entry_is, entry_parts}
use Rattle.fc_smalldir.proofs.entry.read_entry.Goals as goal

pub new-requires-clause-printed : goal.new-requires-clause-printed
new-requires-clause-printed c =
    let bytes = c.args.b.now in
    let field : c.plain_field-field.result ≡ plain_field c.args.form (take 10 bytes) = c.plain_field-field.ensures ∙ ap (plain_field c.args.form) c.array_at.ensures in
    let below : (k : ℕ) → slice_index c.plain_field-field.result k < 256 =
    (λ k. rw field (plain_bytes c.args.form (take 10 bytes) (take_bytes 256 10 bytes (omega arith) (λ i. omega (arith, c.type_inv.b i))) k)) in
    rw c.name_len-len.ensures.name (name_from_32 c.plain_field-field.result below)

pub returns-clause-fits : goal.returns-clause-fits
returns-clause-fits c =
    let b = c.args.b.now in
    let form = c.args.form in
    let field : c.plain_field-field.result ≡ plain_field form (take 10 b) = c.plain_field-field.ensures ∙ ap (plain_field form) c.array_at.ensures in
    let name : name_in (plain_field form (take 10 b)) ≡ c.in_ok-name.name = sym (c.in_ok-name.ensures ∙ c.name_len-len.ensures.name ∙ ap name_in field) in
    let load : little_number 4 (drop 10 b) ≡ c.read_u32.result = sym (c.read_u32.ensures ∙ ap (little_number 4) (take_rest b 10)) in
    let exec : little_number 4 (drop 14 b) ≡ c.read_u32-2.result = sym (c.read_u32-2.ensures ∙ ap (little_number 4) (take_rest b 14)) in
    let len : little_number 4 (drop 18 b) ≡ c.read_u32-3.result = sym (c.read_u32-3.ensures ∙ ap (little_number 4) (take_rest b 18)) in
    let address : little_number 3 (drop 22 b) ≡ c.le24.result = sym c.le24.ensures.bytes in
    let attrs : attrs_in form b ≡ c.attrs_in.result = sym c.attrs_in.ensures in
    let last : last_in form b ≡ c.last_in.result = sym c.last_in.ensures in
    let some : 0 < length (entry_parts form b).name =
    rw (← field, ← c.name_len-len.ensures.name, length-take-le c.name_len-len.result c.plain_field-field.result c.name_len-len.ensures.within) (omega arith) in
    let whole : 0 < length (small_entry form b).name = rw (entry_is form b) some in
    subst (FitsSmall form) (entry_is form b ∙ (λ i. record { name = name i; load = load i; exec = exec i; len = len i; address = address i; attrs = attrs i; last = last i }))
    (fits_read form b (λ i. omega (arith, c.type_inv.b i)) c.requires whole)
