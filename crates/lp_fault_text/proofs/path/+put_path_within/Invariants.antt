use Rattle.lp_fault_text.proofs.path.+put_path_within.Given as goal

-- one instance up in each call
abbrev pub decreases-put_path_within : goal.decreases-put_path_within
decreases-put_path_within l = l.depth
