mod Scaled
