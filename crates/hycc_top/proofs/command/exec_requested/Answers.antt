use Rattle.std.proofs.Common.{◌≡◌, map, length, ap, refl, ◌∙◌, arith, codes, rules, true, false}
use Rattle.std.specs.List.{AllPass}
use Rattle.std.specs.String.{string_bytes}
use Rattle.hex.specs.Hex.{is_hex_digit}
use Rattle.hycc_top.proofs.Requests.{seven, no_seed, request_of}
use Rattle.hycc_top.proofs.command.exec_requested.Goals as goal

pub returns : goal.returns
returns c =
    let all = seven c.args.words.now c.command-item.result c.source-item.result c.a-item.result c.b-item.result c.option-item.result c.seed-item.result (omega arith) c.command-item.is c.source-item.is c.a-item.is c.b-item.is c.option-item.is c.seed-item.is in
    let command : string_bytes c.command-item.result ≡ codes "exec" = search rules in
    let option : string_bytes c.option-item.result ≡ codes "--seed" = search rules in
    let digits : (length (string_bytes c.seed-item.result) ≡ 64) × AllPass is_hex_digit (string_bytes c.seed-item.result) = rw c.as_str-2.ensures.value at (c.in-Some.ensures.0 refl) in
    request_of _ (string_bytes all.0) _ _ _ _ _ (string_bytes c.seed-item.result) _ _ _ (ap (map string_bytes) all.1) command option
    (c.in_ok-from_str.ensures.ok ∙ c.as_str-3.ensures.value)
    (c.in_ok-from_str-2.ensures.ok ∙ c.as_str-4.ensures.value)
    (c.in_ok-from_str-3.ensures.ok ∙ c.as_str-5.ensures.value)
    digits

pub returns-in_default-seed_of : goal.returns-in_default-seed_of
returns-in_default-seed_of c =
    let all = seven c.args.words.now c.command-item.result c.source-item.result c.a-item.result c.b-item.result c.option-item.result c.seed-item.result (omega arith) c.command-item.is c.source-item.is c.a-item.is c.b-item.is c.option-item.is c.seed-item.is in
    no_seed _ (string_bytes all.0) _ _ _ _ _ (string_bytes c.seed-item.result) (ap (map string_bytes) all.1) (λ digits. let seen : false ≡ true = c.in_default-seed_of.ensures.1 (rw c.as_str-2.ensures.value digits) in absurd (cc))
