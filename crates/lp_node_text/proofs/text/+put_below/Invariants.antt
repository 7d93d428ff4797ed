use Rattle.lp_node_text.proofs.text.+put_below.Given as goal

abbrev pub decreases-put_below : goal.decreases-put_below
decreases-put_below l = l.depth
