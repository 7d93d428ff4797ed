-- Names and the nine lines computed.
use Rattle.std.proofs.Common.{◌≡◌, true, false, refl}
use Rattle.std.specs.Prelude.{codes}
use Rattle.lp_plain_upf.specs.declared.plain.Intent.{Intent}
use Rattle.lp_plain_upf.specs.Names.{is_free_name}
use Rattle.lp_plain_upf.specs.Upf.{intent_text}

own_name : is_free_name (codes "lp_v_VDD") ≡ false
own_name = refl

digit_first : is_free_name (codes "1a") ≡ false
digit_first = refl

free_name : is_free_name (codes "g1_") ≡ true
free_name = refl

abbrev supplies : Intent
supplies = record { power = codes "P"; gnd = codes "G"; set = codes "S"; domain = codes "D"; state = codes "N"; voltage = 1000000 }

nine_lines : intent_text supplies (codes "1.0") ≡ codes "create_supply_port P\ncreate_supply_port G\ncreate_supply_net P\ncreate_supply_net G\nconnect_supply_net P -ports {P}\nconnect_supply_net G -ports {G}\ncreate_supply_set S -function {power P} -function {ground G}\ncreate_power_domain D -elements {.} -supply {primary S}\nadd_port_state P -state {N 1.0}\n"
nine_lines = refl
